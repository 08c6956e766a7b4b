-- `row_runs::numbering::number` meets its contract. The loop's invariant is `Numbering`; the measure is how many cells are left. Assumes nothing.
use Prim.Native.Nat.{◌-◌}
use Rattle.row_runs.proofs.Numbers.{Numbering}
use Rattle.row_runs.proofs.numbering.number.Given as goal

abbrev pub invariant-loop-c : goal.invariant-loop-c
invariant-loop-c l = Numbering l.cells l.queue l.n l.initial.labels l.labels l.id l.c

abbrev pub decreases-loop-c : goal.decreases-loop-c
decreases-loop-c l = l.n - l.c
