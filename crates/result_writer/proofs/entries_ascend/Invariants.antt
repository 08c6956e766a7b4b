-- `result_writer::entries_ascend` meets its contract. The loop's invariant is `Ascending`: the entries from i on say what all do. Assumes nothing.
use Rattle.result_writer.specs.Contract.{key_in}
use Rattle.result_writer.proofs.Ascending.{Ascending}
use Rattle.result_writer.proofs.entries_ascend.Given as goal

abbrev pub invariant-loop-i : goal.invariant-loop-i
invariant-loop-i g l = Ascending g.row.N (key_in l.last) l.numbers l.i
