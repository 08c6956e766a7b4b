-- `row_runs::south::join_rows` meets its contract. The loop's invariant is `Southing`; the measure is how many columns are left. Assumes nothing.
use Prim.Native.Nat.{◌+◌, ◌-◌}
use Rattle.row_runs.proofs.SouthNames.{Southing}
use Rattle.row_runs.proofs.south.join_rows.Given as goal

abbrev pub invariant-loop-c : goal.invariant-loop-c
invariant-loop-c l = Southing l.grid.terrain.width l.grid.terrain.cells.now l.grid.masks.now l.queue l.up l.initial.parents l.parents l.c l.a l.b

abbrev pub decreases-loop-c : goal.decreases-loop-c
decreases-loop-c l = l.up + l.grid.terrain.width - l.c
