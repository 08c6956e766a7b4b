-- `ranked_finish::put_listed` meets its contract. The loop's invariant: the first k rows are written (`WrittenTo`). Assumes nothing.
use Prim.Native.Nat.{◌≤◌}
use lib.ListN.{length}
use Rattle.ranked_finish.proofs.Flat.{WrittenTo}
use Rattle.ranked_finish.proofs.put_listed.Given as goal

abbrev pub invariant-loop-k : goal.invariant-loop-k
invariant-loop-k l = (l.k ≤ length l.listed) × WrittenTo l.listed l.initial.lent l.lent l.k
