-- `result_writer::spend_numbers` meets its contract. The loop's invariant is `Spending`. Assumes nothing.
use Rattle.std.specs.Prelude.{map}
use Rattle.result_writer.proofs.Spending.{Spending}
use Rattle.result_writer.proofs.spend_numbers.Given as goal

abbrev pub invariant-loop-n : goal.invariant-loop-n
invariant-loop-n g l = Spending (map g.T.Entry.value l.numbers) l.initial.left l.left l.n-index
