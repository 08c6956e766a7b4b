-- `leaves::clear_exteriors` meets its contract. The invariant: what the rows passed name is no more marked. Assumes nothing.
use Prim.Native.Nat.{ℕ, ◌≤◌}
use mathlib.Core.Path.{◌≡◌}
use mathlib.Core.List.{List}
use lib.ListN.{length}
use Rattle.definitions.specs.Scan.{member}
use Rattle.definitions.specs.Context.{Context}
use Rattle.definitions.specs.RampInteriors.{exteriors}
use Rattle.context.specs.Shown.{pairs_between}
use Rattle.interior_proposals.specs.Given.{Marked}
use Rattle.interior_proposals.specs.Owners.{Walkable}
use Rattle.interior_proposals.proofs.ExteriorLaws.{Clearing}
use Rattle.interior_proposals.proofs.leaves.clear_exteriors.Given as goal

abbrev pub invariant-loop-k : goal.invariant-loop-k
invariant-loop-k l =
    (l.k-iterator.end ≡ l.fn.rows.end) × (l.fn.rows.start ≤ l.k-iterator.start) × (l.k-iterator.start ≤ l.fn.rows.end) × (length l.marks ≡ length l.initial.marks)
    × ((C : Context) (rs : List ℕ) (w : Walkable l.pairs l.fn.rows.start l.fn.rows.end C.regions) → Marked C (λ y. member y (exteriors rs (pairs_between l.pairs l.fn.rows.start l.fn.rows.end))) l.initial.marks → Clearing C (λ x. member x (exteriors rs (pairs_between l.pairs l.fn.rows.start l.fn.rows.end))) l.pairs l.fn.rows.start l.fn.rows.end w l.initial.marks l.k-iterator.start l.marks)
