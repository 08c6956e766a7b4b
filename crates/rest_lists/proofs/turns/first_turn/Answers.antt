-- `rest_lists::turns::first_turn` meets its contract, by the search; written so that a wrong body is refused sooner. Assumes nothing.
use Rattle.std.proofs.Common.{rules}
use Rattle.rest_lists.proofs.turns.first_turn.Goals as goal

pub returns : goal.returns
returns c = search rules
