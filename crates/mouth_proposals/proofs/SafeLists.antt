-- What the lists that show a context let the code read, and what it then has read. Assumes nothing.
use Prim.Native.Nat.{ℕ, ◌+◌, ◌*◌, ◌≤◌, ◌<◌}
use native.Mathlib.Omega.{arith}
use native.Mathlib.Nat.{le_trans}
use mathlib.Core.Path.{◌≡◌, sym, ap, ap₂, ◌∙◌, subst}
use mathlib.Core.Bool.{true}
use Rattle.std.specs.Prelude.{Option, None, Some, is_some}
use mathlib.Core.List.{List}
use lib.ListN.{length, get_or}
use lib.Dec.{eqb}
use Rattle.definitions.specs.Limits.{numbers_per_boundary, tallies_per_span}
use Rattle.definitions.specs.Scan.{only_if}
use Rattle.definitions.specs.Grid.{Pair}
use Rattle.definitions.specs.MouthShapes.{distinct_regions, mouth_shape, triangle_representative}
use Rattle.definitions.specs.Context.{Context, no_ramp}
use Rattle.laws.specs.ListLaws.Lists.{All, done, more}
use Rattle.context.specs.Shown.{ShownBoundaries, ShownPairs}
use Rattle.context.specs.Rows.{Stretch, NamedRow}
use Rattle.context.proofs.ShownLaws.{shown-stretch, shown-rows}
use Rattle.mouth_proposals.specs.Lent.{Shown}
use Rattle.mouth_proposals.specs.Rows.{rows_of, EdgesWithin, edges_form, TriangleOf}
use Rattle.mouth_proposals.specs.Candidates.{approach_of, Within}
use Rattle.mouth_proposals.specs.declared.approaches.Approach.{Approach}
use Rattle.mouth_proposals.specs.declared.shapes.Edges.{Edges}
use Rattle.mouth_proposals.proofs.ApproachLaws.{Named}
use Rattle.mouth_proposals.proofs.Within.{within_more, approach_within}

pub below : {i n k : ℕ} → n ≡ k → i < k → i < n
below {i} e h = subst (λ n. i < n) (sym e) h

module _ {boundaries tallies pairs starts counts marks : List ℕ} {count : ℕ} (L : Shown boundaries tallies pairs starts counts marks count) where
  pub stretch_at : {i : ℕ} → i < count → Stretch pairs starts i
  stretch_at {i} h = shown-stretch L.shows.rows i (below L.shows.counted h)

  pub tallies_at : {i : ℕ} → i < count → tallies_per_span * i + 1 < length tallies
  tallies_at {i} h = omega (arith, L.cuts.long, L.shows.counted)

  pub rows-counted : numbers_per_boundary * count ≤ length boundaries
  rows-counted = omega (arith, L.shows.bounds.long, L.shows.counted)

  -- a row's regions have a count and a mark
  pub named-both : {m : ℕ} → m < count → (k : ℕ) → get_or starts m 0 ≤ k → k < get_or starts (m + 1) 0 → NamedRow pairs (length counts) k × NamedRow pairs (length marks) k
  named-both {m} h k l u =
      let n = (shown-rows L.shows.rows).named m (below L.shows.counted h) k l u in
      (more n L.shows.incidents.long, more n L.shows.anchored.long)
    where
      more : {a b : ℕ} → NamedRow pairs a k → a ≤ b → NamedRow pairs b k
      more r g = record { inside = r.inside; lo-pos = r.lo-pos; lo-le = le_trans r.lo-le g; hi-pos = r.hi-pos; hi-le = le_trans r.hi-le g }

  pub named_in : {m : ℕ} → m < count → (o : Option Pair) {A : Option Approach} → A ≡ approach_of o (mouth_shape true (L.context.pairs m)) → Within (length counts) A × Within (length marks) A
  named_in {m} h o {A} e =
      let w = approach_within (L.context.pairs m) (L.shows.rows.named m (below L.shows.counted h)) o in
      let v = subst (Within L.context.regions) (sym e) w in
      (within_more L.shows.incidents.long A v, within_more L.shows.anchored.long A v)

module _ {C : Context} where
  pub kind-shown : {boundaries : List ℕ} → ShownBoundaries C boundaries → (m : ℕ) → m < C.count → no_ramp C m ≡ eqb (get_or boundaries (numbers_per_boundary * m + 5) 0) 0
  kind-shown S m l = ap (λ b. eqb b.kind 0) (S.at m l)

  module _ {pairs starts : List ℕ} (P : ShownPairs C pairs starts) where
    pub triangle-shown : (m a : ℕ) → m < C.count → a < C.count → (o : Option Edges) → TriangleOf (rows_of pairs starts m) (rows_of pairs starts a) o
        → triangle_representative (C.pairs m) (C.pairs a) ≡ only_if (is_some o) (distinct_regions (C.pairs m))
    triangle-shown m a h k None e = ap₂ triangle_representative (P.at m h) (P.at a k) ∙ e
    triangle-shown m a h k (Some s) e = ap₂ triangle_representative (P.at m h) (P.at a k) ∙ e.1 ∙ ap (λ l. Some (distinct_regions l)) (sym (P.at m h))

    -- the edges of a triangle are the rows of mouth m
    pub edges-shown : (m : ℕ) → m < C.count → (r : List Pair) {o : Option Edges} → TriangleOf (rows_of pairs starts m) r o → {s : Edges} → o ≡ Some s → C.pairs m ≡ edges_form s
    edges-shown m h r t e = P.at m h ∙ (subst (TriangleOf (rows_of pairs starts m) r) e t).0

    -- their regions are numbered
    pub edges_within : (m : ℕ) → m < C.count → {s : Edges} → C.pairs m ≡ edges_form s → EdgesWithin C.regions s
    edges_within m h {s} e = go (subst (All (Named C.regions)) e (P.named m h))
      where
        go : All (Named C.regions) (edges_form s) → EdgesWithin C.regions s
        go (more p (more q done)) = (((p.0, omega (arith, p)), (omega (arith, p), p.1.1)), ((q.0, omega (arith, q)), (omega (arith, q), q.1.1)))

    pub approach_named : (m : ℕ) → m < C.count → (o : Option Pair) {A : Option Approach} → A ≡ approach_of o (mouth_shape true (C.pairs m)) → Within C.regions A
    approach_named m h o e = subst (Within C.regions) (sym e) (approach_within (C.pairs m) (P.named m h) o)
