-- `row_runs::run::put_alike` meets its contract: the entries before c are filled; the measure is how many are left. Assumes nothing.
use Prim.Native.Nat.{◌-◌, ◌≤◌}
use Rattle.row_runs.specs.Numbered.{Filled}
use Rattle.row_runs.proofs.run.put_alike.Given as goal

abbrev pub invariant-loop-c : goal.invariant-loop-c
invariant-loop-c l = (l.from ≤ l.c) × (l.c ≤ l.end) × Filled l.from l.c l.value l.initial.list l.list

abbrev pub decreases-loop-c : goal.decreases-loop-c
decreases-loop-c l = l.end - l.c
