-- `leaves::expand_rows` meets its contract. The invariant: the names hold what the rows passed expand the regions to. Assumes nothing.
use Prim.Native.Nat.{ℕ, ◌≤◌}
use mathlib.Core.Path.{◌≡◌}
use mathlib.Core.Bool.{Bool}
use mathlib.Core.List.{List}
use lib.ListN.{length}
use Rattle.definitions.specs.Scan.{member}
use Rattle.definitions.specs.Context.{Context}
use Rattle.definitions.specs.RampInteriors.{expand_pairs}
use Rattle.context.specs.Shown.{pairs_between}
use Rattle.interior_proposals.specs.Given.{Marked}
use Rattle.interior_proposals.specs.Leaves.{Inside, from, Held, Ported}
use Rattle.interior_proposals.proofs.leaves.expand_rows.Given as goal

abbrev pub invariant-loop-k : goal.invariant-loop-k
invariant-loop-k l =
    (l.k-iterator.end ≡ l.fn.rows.end) × (l.fn.rows.start ≤ l.k-iterator.start) × (l.k-iterator.start ≤ l.fn.rows.end) × (length l.names ≡ length l.initial.names)
    × ((C : Context) (i : ℕ) (rs es : List ℕ) (v : Bool) → Ported C l.pairs l.fn.rows.start l.fn.rows.end i → Inside C l.r rs l.initial.names → Marked C (λ y. member y es) l.marks → Held C i l.r (expand_pairs C i es (from rs v) (pairs_between l.pairs l.fn.rows.start l.k-iterator.start)) v l.initial.names l.names l.fit)
