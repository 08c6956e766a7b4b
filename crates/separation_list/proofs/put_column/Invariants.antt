-- `put_column` meets its contract. The loop's invariant is `ColumnFilled`: the rows of the first i are stored. The measure is how many are left. Assumes
-- nothing.
use Prim.Native.Nat.{◌-◌}
use Rattle.separation_list.proofs.Storing.{ColumnFilled}
use Rattle.separation_list.proofs.put_column.Given as goal

abbrev pub invariant-loop-i : goal.invariant-loop-i
invariant-loop-i l = ColumnFilled l.boundaries l.initial.output l.k l.j l.output l.i

abbrev pub decreases-loop-i : goal.decreases-loop-i
decreases-loop-i l = l.j - l.i
