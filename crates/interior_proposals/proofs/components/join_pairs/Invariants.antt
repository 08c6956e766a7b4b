-- `components::join_pairs` meets its contract. The invariant: the rows passed are merged. Assumes nothing.
use Prim.Native.Nat.{ℕ, ◌≤◌}
use mathlib.Core.Path.{◌≡◌}
use mathlib.Core.List.{List}
use lib.ListN.{length}
use Rattle.context.specs.Shown.{pairs_between}
use Rattle.interior_proposals.specs.Forest.{Parented, Rows, Merged}
use Rattle.interior_proposals.proofs.components.join_pairs.Given as goal

abbrev pub invariant-loop-k : goal.invariant-loop-k
invariant-loop-k l = (l.k-iterator.end ≡ l.fn.rows.end) × (l.fn.rows.start ≤ l.k-iterator.start) × (l.k-iterator.start ≤ l.fn.rows.end) × ((cs : List ℕ) → Parented cs l.initial.parents → Rows (length cs) l.pairs l.fn.rows.start l.fn.rows.end → Merged cs l.initial.parents (pairs_between l.pairs l.fn.rows.start l.k-iterator.start) l.parents)
