-- `result_writer::in_turn` meets its contract. The loop's invariant is `Turning`: the labels that are left, with the numbers started, say what all do. Assumes nothing.
use Rattle.result_writer.proofs.Turning.{Turning}
use Rattle.result_writer.proofs.in_turn.Given as goal

abbrev pub invariant-loop-label : goal.invariant-loop-label
invariant-loop-label l = Turning l.regions l.labels l.started l.label-index
