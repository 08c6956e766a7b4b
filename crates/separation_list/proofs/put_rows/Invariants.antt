-- `put_rows` meets its contract. The loop's invariant is `RowsFilled`: the rows of the first j are stored. The measure is how many are
-- left. Assumes nothing.
use Prim.Native.Nat.{◌-◌}
use Rattle.separation_list.proofs.Storing.{RowsFilled}
use Rattle.separation_list.proofs.put_rows.Given as goal

abbrev pub invariant-loop-j : goal.invariant-loop-j
invariant-loop-j l = RowsFilled l.boundaries l.initial.output l.n l.output l.j

abbrev pub decreases-loop-j : goal.decreases-loop-j
decreases-loop-j l = l.n - l.j
