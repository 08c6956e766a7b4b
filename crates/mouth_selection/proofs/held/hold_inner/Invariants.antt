-- `held::hold_inner` meets its contract. The invariant: the rows passed are held. Assumes nothing.
use Prim.Native.Nat.{◌≤◌}
use mathlib.Core.Path.{◌≡◌}
use Rattle.mouth_selection.proofs.Marks.{marked}
use Rattle.mouth_selection.proofs.held.hold_inner.Given as goal

abbrev pub invariant-loop-k : goal.invariant-loop-k
invariant-loop-k l =
    (l.k-iterator.end ≡ l.fn.rows.end) × (l.fn.rows.start ≤ l.k-iterator.start) × (l.k-iterator.start ≤ l.fn.rows.end)
    × (l.marks ≡ marked l.outer l.initial.marks l.pairs l.fn.rows.start l.k-iterator.start)
