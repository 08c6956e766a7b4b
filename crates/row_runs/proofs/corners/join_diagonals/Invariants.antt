-- `row_runs::corners::join_diagonals` meets its contract. The loop's invariant is `Cornering`; the measure is how many cells are left. Assumes nothing.
use Prim.Native.Nat.{◌+◌, ◌-◌}
use Rattle.row_runs.proofs.CornerNames.{Cornering}
use Rattle.row_runs.proofs.corners.join_diagonals.Given as goal

abbrev pub invariant-loop-c : goal.invariant-loop-c
invariant-loop-c l = Cornering l.grid.terrain.width l.grid.terrain.cells.now l.grid.masks.now l.up (l.up + l.grid.terrain.width) l.initial.parents l.parents l.c

abbrev pub decreases-loop-c : goal.decreases-loop-c
decreases-loop-c l = l.end - l.c
