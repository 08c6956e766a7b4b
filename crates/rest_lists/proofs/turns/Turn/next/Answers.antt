-- `rest_lists::turns::Turn::next` meets its contract, by the search; written so that a wrong body is refused sooner. Assumes nothing.
use Rattle.std.proofs.Common.{rules}
use Rattle.rest_lists.proofs.turns.Turn.next.Goals as goal

pub returns : goal.returns
returns c = search rules
