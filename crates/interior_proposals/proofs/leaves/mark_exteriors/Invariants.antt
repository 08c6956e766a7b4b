-- `leaves::mark_exteriors` meets its contract. The invariant: the exteriors of the rows passed are marked. Assumes nothing.
use Prim.Native.Nat.{ℕ, ◌≤◌}
use mathlib.Core.Path.{◌≡◌}
use mathlib.Core.Bool.{false}
use mathlib.Core.List.{List}
use lib.ListN.{length}
use Rattle.definitions.specs.Context.{Context}
use Rattle.context.specs.Shown.{pairs_between}
use Rattle.interior_proposals.specs.Given.{Marked}
use Rattle.interior_proposals.specs.Owners.{Walkable}
use Rattle.interior_proposals.specs.Leaves.{Inside, Exteriored}
use Rattle.interior_proposals.proofs.leaves.mark_exteriors.Given as goal

abbrev pub invariant-loop-k : goal.invariant-loop-k
invariant-loop-k l =
    (l.k-iterator.end ≡ l.fn.rows.end) × (l.fn.rows.start ≤ l.k-iterator.start) × (l.k-iterator.start ≤ l.fn.rows.end) × (length l.marks ≡ length l.initial.marks)
    × ((C : Context) (rs : List ℕ) → Walkable l.pairs l.fn.rows.start l.fn.rows.end C.regions → Inside C l.r rs l.names → Marked C (λ y. false) l.initial.marks → Exteriored C rs (pairs_between l.pairs l.fn.rows.start l.k-iterator.start) l.initial.marks l.marks l.fit)
