-- `row_runs::run::scan_row` meets its contract. The loop's invariant is `Scanning`; the measure is how many cells are left. Assumes nothing.
use Prim.Native.Nat.{◌-◌}
use Rattle.row_runs.proofs.RowNames.{Scanning}
use Rattle.row_runs.proofs.run.scan_row.Given as goal

abbrev pub invariant-loop-c : goal.invariant-loop-c
invariant-loop-c l = Scanning l.grid.terrain.cells.now l.grid.masks.now l.from l.end l.initial.parents l.initial.queue l.parents l.queue l.c

abbrev pub decreases-loop-c : goal.decreases-loop-c
decreases-loop-c l = l.end - l.c
