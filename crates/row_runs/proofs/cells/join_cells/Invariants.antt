-- `row_runs::cells::join_cells` meets its contract. The loop's invariant is `Joining`; the measure is how many rows are left. Assumes nothing.
use Prim.Native.Nat.{◌-◌}
use Rattle.row_runs.proofs.AllRows.{Joining}
use Rattle.row_runs.proofs.cells.join_cells.Given as goal

abbrev pub invariant-loop-y : goal.invariant-loop-y
invariant-loop-y l = Joining l.grid.terrain.width l.grid.terrain.height l.grid.terrain.cells.now l.grid.masks.now l.initial.parents l.initial.queue l.parents l.queue l.y l.marked

abbrev pub decreases-loop-y : goal.decreases-loop-y
decreases-loop-y l = l.grid.terrain.height - l.y
