-- `rest_lists::turns::next_turn` meets its contract, by the search; written so that a wrong body is refused sooner. Assumes nothing.
use Rattle.std.proofs.Common.{rules}
use Rattle.rest_lists.proofs.turns.next_turn.Goals as goal

pub returns-in-None : goal.returns-in-None
returns-in-None c = search rules

pub returns-in-Some-ReplaceRampMouths : goal.returns-in-Some-ReplaceRampMouths
returns-in-Some-ReplaceRampMouths c = search rules

pub returns-in-Some-CollapseRampInteriors : goal.returns-in-Some-CollapseRampInteriors
returns-in-Some-CollapseRampInteriors c = search rules

pub returns-in-Some-RemoveJunctionBoundaries : goal.returns-in-Some-RemoveJunctionBoundaries
returns-in-Some-RemoveJunctionBoundaries c = search rules
