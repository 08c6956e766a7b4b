-- `result_reader::numbers_at` meets its contract. The loop's invariant is `Reading`. Assumes nothing.
use Rattle.result_reader.proofs.Numbers.{Reading}
use Rattle.result_reader.proofs.numbers_at.Given as goal

abbrev pub invariant-loop-number : goal.invariant-loop-number
invariant-loop-number g l = Reading g.row.N l.at l.bytes l.number-items l.next l.number-index
