-- `row_runs::corners::join_squares` meets its contract. The loop's invariant is `Cornering`. Assumes nothing.
use Rattle.row_runs.proofs.CornerNames.{Cornering}
use Rattle.row_runs.proofs.corners.join_squares.Given as goal

abbrev pub invariant-loop-c : goal.invariant-loop-c
invariant-loop-c l = Cornering l.grid.terrain.width l.grid.terrain.cells.now l.grid.masks.now l.from l.to l.initial.parents l.parents l.c
