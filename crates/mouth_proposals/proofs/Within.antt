-- The regions of an approach are numbered: they are regions of the mouth's pairs. Assumes nothing.
use Prim.Native.Nat.{ℕ, ◌≤◌}
use native.Mathlib.Omega.{arith}
use native.Mathlib.Nat.{le_trans}
use mathlib.Core.Path.{◌≡◌, refl, sym, subst}
use mathlib.Core.Bool.{Bool, true, false, not, cond}
use Rattle.std.specs.Prelude.{Option, None, Some}
use mathlib.Core.List.{List, [], ◌∷◌}
use lib.Dec.{eqb}
use Rattle.definitions.specs.Scan.{filter}
use Rattle.definitions.specs.Grid.{Pair, contains}
use Rattle.definitions.specs.MouthShapes.{MouthShape, single, star, distinct_regions, mouth_shape}
use Rattle.laws.specs.ListLaws.Lists.{All, done, more, all_filter}
use Rattle.laws.specs.ListLaws.NumberLists.{all-add_all}
use Rattle.mouth_proposals.specs.Rows.{is_outer, inner_of, one_of, EdgesWithin}
use Rattle.mouth_proposals.specs.Candidates.{single_at, star_at, approach_of, Within, Numbered}
use Rattle.mouth_proposals.specs.declared.approaches.Approach.{Approach}
use Rattle.mouth_proposals.specs.declared.approaches.Approach.TheVariants as approach
use Rattle.mouth_proposals.specs.declared.shapes.Edges.{Edges}
use Rattle.mouth_proposals.proofs.ApproachLaws.{Named, single-pairs, all_of_one}
use Rattle.mouth_proposals.proofs.StarShapes.{star_is}
use Rattle.mouth_proposals.proofs.Fitting.{all-named-regions}

pub within_more : {n k : ℕ} → n ≤ k → (A : Option Approach) → Within n A → Within k A
within_more h None w = tt
within_more h (Some (approach.Single s)) w = ((w.0.0, le_trans w.0.1 h), (w.1.0, le_trans w.1.1 h))
within_more h (Some (approach.Star s)) w = ((w.0.0, le_trans w.0.1 h), (w.1.0, le_trans w.1.1 h))

pub edges_more : {n k : ℕ} → n ≤ k → (e : Edges) → EdgesWithin n e → EdgesWithin k e
edges_more h e w = (((w.0.0.0, le_trans w.0.0.1 h), (w.0.1.0, le_trans w.0.1.1 h)), ((w.1.0.0, le_trans w.1.0.1 h), (w.1.1.0, le_trans w.1.1.1 h)))

module _ {n : ℕ} where
  single-within : (p : Pair) → Named n p → (o : Option ℕ) → Numbered n o → Within n (single_at p o)
  single-within p h None l = tt
  single-within p h (Some r) l = (go (eqb p.lo r), l)
    where
      go : (b : Bool) → (1 ≤ cond b p.hi p.lo) × (cond b p.hi p.lo ≤ n)
      go true = (omega arith, h.1.1)
      go false = (h.0, omega arith)

  star-within : (outer : ℕ) → (1 ≤ outer) × (outer ≤ n) → (o : Option ℕ) → Numbered n o → Within n (star_at outer o)
  star-within outer h None l = tt
  star-within outer h (Some r) l = (h, l)

  one_numbered : {l : List ℕ} → All (λ s. (1 ≤ s) × (s ≤ n)) l → Numbered n (one_of l)
  one_numbered done = tt
  one_numbered (more h done) = h
  one_numbered (more h (more k t)) = tt

  inner-named : (outer : Option ℕ) (l : List Pair) → All (Named n) l → All (λ s. (1 ≤ s) × (s ≤ n)) (inner_of outer l)
  unfolding inner_of distinct_regions
  inner-named outer l named = all_filter (λ r. not (is_outer outer r)) (all-add_all done (all-named-regions named))

  pub approach_within : (l : List Pair) → All (Named n) l → (o : Option Pair) → Within n (approach_of o (mouth_shape true l))
  approach_within l named None = tt
  approach_within l named (Some q) = go (mouth_shape true l) refl
    where
      two : (p : Pair) → Named n p → All (λ s. (1 ≤ s) × (s ≤ n)) (p.lo ∷ p.hi ∷ [])
      two p h = more {x = p.lo} (h.0, omega arith) (more {x = p.hi} (omega arith, h.1.1) done)

      go : (s : Option MouthShape) → mouth_shape true l ≡ s → Within n (approach_of (Some q) s)
      go None e = tt
      go (Some (single p)) e =
          let h = all_of_one (single-pairs l p (sym e)) named in
          single-within p h (one_of (filter (λ r. contains r q) (p.lo ∷ p.hi ∷ []))) (one_numbered (all_filter (λ r. contains r q) (two p h)))
      go (Some (star outer inner)) e =
          let S = star_is l named outer inner e in
          star-within outer S.outside (one_of (filter (λ r. contains r q) inner)) (one_numbered (all_filter (λ r. contains r q) (subst (All (λ s. (1 ≤ s) × (s ≤ n))) (sym S.inside) (inner-named (Some outer) l named))))
