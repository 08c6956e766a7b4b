-- The approach of a mouth, as the code finds it: the one region of the ramp's full pair that the mouth's rows name. Assumes nothing.
use Prim.Native.Nat.{ℕ, ◌≤◌, ◌<◌}
use native.Mathlib.Omega.{arith}
use mathlib.Core.Path.{◌≡◌, refl, sym, ap, ◌∙◌, subst}
use mathlib.Core.Bool.{Bool, true, false, not, ◌&&◌, ◌||◌, cond}
use Rattle.std.specs.Prelude.{Option, None, Some}
use mathlib.Core.List.{List, [], ◌∷◌}
use lib.Dec.{eqb}
use borrow.Author.Tests.{ne_eqb}
use Rattle.definitions.specs.Scan.{any, filter, member, add_new, add_all}
use Rattle.definitions.specs.Grid.{Pair, contains}
use Rattle.definitions.specs.MouthShapes.{single, distinct_regions, common_regions, star_from, mouth_shape}
use Rattle.definitions.specs.Context.{Context, full_cut, only_pair, full_pair, is_incident}
use Rattle.laws.specs.ListLaws.Lists.{All, more}
use Rattle.context.specs.Rows.{pair_form}
use Rattle.mouth_proposals.specs.Rows.{is_outer, inner_of, shape_form, one_of}
use Rattle.mouth_proposals.specs.Candidates.{single_at, star_at, approach_of}
use Rattle.region_pairs.specs.declared.Pair as shape-pair
use Rattle.mouth_proposals.specs.declared.shapes.Shape.{Shape}
use Rattle.mouth_proposals.specs.declared.shapes.Shape.TheVariants as shape
use Rattle.mouth_proposals.proofs.Distinct.{member-inner, inner_distinct, which-left}

pub shared_is : (C : Context) (m : ℕ) (outer : Option ℕ) (q : Pair) → q.lo < q.hi → {s t : Bool} → (not (is_outer outer q.lo) && is_incident C m q.lo) ≡ s → (not (is_outer outer q.hi) && is_incident C m q.hi) ≡ t
    → cond s (cond t None (Some q.lo)) (cond t (Some q.hi) None) ≡ one_of (filter (λ r. contains r q) (inner_of outer (C.pairs m)))
unfolding is_incident
shared_is C m outer q h {s} {t} e f =
    sym (which-left (λ r. contains r q) q.lo q.hi (λ k. omega (arith, k)) (λ r. refl) (inner_distinct outer (C.pairs m))
    ∙ (λ i. cond (lo i) (cond (hi i) None (Some q.lo)) (cond (hi i) (Some q.hi) None)))
  where
    lo : member q.lo (inner_of outer (C.pairs m)) ≡ s
    lo = member-inner outer q.lo (C.pairs m) ∙ e

    hi : member q.hi (inner_of outer (C.pairs m)) ≡ t
    hi = member-inner outer q.hi (C.pairs m) ∙ f

-- a shape of one pair
pub single-pairs : (l : List Pair) (p : Pair) → Some (single p) ≡ mouth_shape true l → l ≡ p ∷ []
unfolding mouth_shape star_from
single-pairs [] p e = absurd (not_none e)
  where
    not_none : Some (single p) ≡ None → ⊥
    not_none e = let z : ◌≡◌ {A = ℕ} 0 1 = cc in omega arith
single-pairs (q ∷ []) p e = cc
single-pairs (q ∷ r ∷ l) p e = absurd (go (common_regions (q ∷ r ∷ l)) e)
  where
    go : (c : List ℕ) → Some (single p) ≡ star_from (q ∷ r ∷ l) c → ⊥
    go [] e = let z : ◌≡◌ {A = ℕ} 0 1 = cc in omega arith
    go (o ∷ []) e = let z : ◌≡◌ {A = ℕ} 0 1 = cc in omega arith
    go (o ∷ s ∷ c) e = let z : ◌≡◌ {A = ℕ} 0 1 = cc in omega arith

abbrev pub Named : ℕ → Pair → Type 0
Named n p = (1 ≤ p.lo) × ((p.lo < p.hi) × (p.hi ≤ n))

pub one_inner : (p : Pair) (outer : ℕ) {n : ℕ} → Named n p → {s t : Bool} → eqb p.lo outer ≡ s → eqb p.hi outer ≡ t
    → inner_of (Some outer) (p ∷ []) ≡ cond (not s) (p.lo ∷ cond (not t) (p.hi ∷ []) []) (cond (not t) (p.hi ∷ []) [])
unfolding inner_of distinct_regions add_all add_new member any filter
one_inner p outer h e f =
    ap (λ b. filter (λ r. not (eqb r outer)) (cond (b || false) (p.lo ∷ []) (p.lo ∷ p.hi ∷ []))) (ne_eqb p.hi p.lo (λ k. omega (arith, k)))
    ∙ (λ i. cond (not (e i)) (p.lo ∷ cond (not (f i)) (p.hi ∷ []) []) (cond (not (f i)) (p.hi ∷ []) []))

pub all-inner : (p : Pair) {n : ℕ} → Named n p → inner_of None (p ∷ []) ≡ p.lo ∷ p.hi ∷ []
unfolding inner_of distinct_regions add_all add_new member any filter
all-inner p h = ap (λ b. filter (λ r. true) (cond (b || false) (p.lo ∷ []) (p.lo ∷ p.hi ∷ []))) (ne_eqb p.hi p.lo (λ k. omega (arith, k)))

-- a full pair is the boundary's one pair
pub full-pairs : (C : Context) (a : ℕ) (q : Pair) → Some q ≡ full_pair C a → C.pairs a ≡ q ∷ []
unfolding full_pair
full-pairs C a q e = go (full_cut C a) (C.pairs a) e
  where
    go : (b : Bool) (l : List Pair) → Some q ≡ only_pair b l → l ≡ q ∷ []
    go true [] e = absurd (let z : ◌≡◌ {A = ℕ} 0 1 = cc in omega arith)
    go true (p ∷ []) e = cc
    go true (p ∷ r ∷ l) e = absurd (let z : ◌≡◌ {A = ℕ} 0 1 = cc in omega arith)
    go false l e = absurd (let z : ◌≡◌ {A = ℕ} 0 1 = cc in omega arith)

pub all_of_one : {P : Pair → Type 0} {l : List Pair} {q : Pair} → l ≡ q ∷ [] → All P l → P q
all_of_one {P} {l} {q} e a = head (subst (All P) e a)
  where
    head : All P (q ∷ []) → P q
    head (more h t) = h

-- ---- by the shape, q being the ramp's full pair

module _ (l : List Pair) (q : Pair) where
  abbrev shared : Option ℕ → Option ℕ
  shared outer = one_of (filter (λ r. contains r q) (inner_of outer l))

  module _ (s : Shape) (e : shape_form l (Some s) ≡ mouth_shape true l) where
    pub from_single : {n : ℕ} → All (Named n) l → {p : shape-pair.Pair} → s ≡ shape.Single p → {r : Option ℕ} → r ≡ shared None → single_at (pair_form p) r ≡ approach_of (Some q) (mouth_shape true l)
    from_single named {p} k d =
        ap (single_at (pair_form p)) (d ∙ ap (λ l. one_of (filter (λ r. contains r q) l)) (ap (inner_of None) one ∙ all-inner (pair_form p) (all_of_one one named)))
        ∙ ap (approach_of (Some q)) single_here
      where
        single_here : Some (single (pair_form p)) ≡ mouth_shape true l
        single_here = sym (ap (λ s. shape_form l (Some s)) k) ∙ e

        one : l ≡ pair_form p ∷ []
        one = single-pairs l (pair_form p) (sym (ap (λ s. shape_form l (Some s)) k) ∙ e)

    pub from_star : {outer : ℕ} → s ≡ shape.Star outer → {r : Option ℕ} → r ≡ shared (Some outer) → star_at outer r ≡ approach_of (Some q) (mouth_shape true l)
    unfolding inner_of
    from_star {outer} k d = ap (star_at outer) d ∙ ap (approach_of (Some q)) (sym (ap (λ s. shape_form l (Some s)) k) ∙ e)
