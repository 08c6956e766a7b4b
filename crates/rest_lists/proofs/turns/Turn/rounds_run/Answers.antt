-- `rest_lists::turns::Turn::rounds_run` meets its contract, by the search; written so that a wrong body is refused sooner. Assumes nothing.
use Rattle.std.proofs.Common.{rules}
use Rattle.rest_lists.proofs.turns.Turn.rounds_run.Goals as goal

pub returns-in_default : goal.returns-in_default
returns-in_default c = search rules

pub returns-in-ReplaceRampMouths : goal.returns-in-ReplaceRampMouths
returns-in-ReplaceRampMouths c = search rules
