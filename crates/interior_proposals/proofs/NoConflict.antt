-- Two components that are proposed have no region in common (`regions-apart`), and no edge (`edges-apart`), so that the choice among proposals takes all of them.
-- Assumes Sound.
use Prim.Native.Nat.{ℕ, ◌≤◌, ◌<◌}
use mathlib.Core.Path.{◌≡◌, refl, sym, ap, subst, ◌∙◌}
use mathlib.Core.Bool.{Bool, true, false, not, ◌&&◌, ◌||◌, true≢false}
use mathlib.Core.Logic.{◌⊎◌, inl, inr, ⊎_elim}
use mathlib.Core.List.{List}
use lib.Dec.{eqb}
use borrow.Author.Tests.{eqb-true}
use Rattle.definitions.specs.Scan.{any, member, any_below_lem}
use Rattle.definitions.specs.Context.{Context, is_incident, no_ramp, full_cut}
use Rattle.definitions.specs.MouthShapes.{regions_of}
use Rattle.definitions.specs.RampInteriors.{Expansion, is_ordinary, components, component_of, is_edge, component_regions, expand_port}
use Rattle.laws.specs.ListLaws.Tests.{both}
use Rattle.laws.specs.ListLaws.Below.{below_first}
use Rattle.laws.specs.ListLaws.Members.{any_found, all_at}
use Rattle.laws.specs.OrderLaws.ListOrder.{eqb_sym}
use Rattle.laws.specs.RustMouths.Triangles.{any-regions}
use Rattle.laws.specs.RustContext.SoundContext.{Sound}
use Rattle.laws.specs.RustInteriors.ComponentRegions.{inside, named, inside-named, region_members}
use Rattle.interior_proposals.specs.Owners.{all_in_lem, edge}
use Rattle.interior_proposals.specs.Candidates.{candidate, spoils_at}
use Rattle.interior_proposals.specs.Leaves.{Single}
use Rattle.interior_proposals.specs.Proposals.{own, expanded_of}
use Rattle.interior_proposals.proofs.RowScans.{all-holds}
use Rattle.interior_proposals.proofs.CandidateLaws.{within, candidate_unspoilt}
use Rattle.interior_proposals.proofs.ProposalLaws.{candidate-edge, candidate-inside}
use Rattle.interior_proposals.proofs.Apart.{Leaf, port-leaf, port-valid, not_both_lem, other-inside, single_same, beside_incident, exterior-beside}

module _ (C : Context) (S : Sound C) where
  abbrev regions_in : ℕ → List ℕ
  regions_in q = component_regions C (components C) q

  pub named_incident : (x j : ℕ) → member x (regions_of (C.pairs j)) ≡ true → is_incident C j x ≡ true
  unfolding is_incident member
  named_incident x j h = sym (any-regions (eqb x) (C.pairs j) ∙ (λ t. any (λ p. eqb_sym x p.lo t || eqb_sym x p.hi t) (C.pairs j))) ∙ h

  edge-ordinary : (q j : ℕ) → edge C q j ≡ true → no_ramp C j ≡ true
  unfolding is_edge is_ordinary
  edge-ordinary q j h = (both (no_ramp C j) (full_cut C j) (both (is_ordinary C j) (any (λ p. eqb (component_of C (components C) p.lo) q) (C.pairs j)) h).0).0

  -- a region whose only incident has a ramp is in no component with an edge
  pub loose_edge : (q : ℕ) → 1 ≤ q → any_below_lem C.count (edge C q) ≡ true → (x i : ℕ) → i < C.count → Single C i x → no_ramp C i ≡ false → inside C q x ≡ true → ⊥
  loose_edge q from some x i l s w h =
      let f = below_first (λ j. edge C q j && named C (within S) q x j) C.count (inside-named C (within S) q x from some h) in
      let t = both (edge C q f.place) (named C (within S) q x f.place) f.found in
      true≢false (sym (edge-ordinary q f.place t.0) ∙ ap (no_ramp C) (sym (single_same C s l f.below (named_incident x f.place t.1))) ∙ w)

  module _ (q : ℕ) (from : 1 ≤ q) (cand : candidate C q ≡ true) where
    pub region-inside : (x : ℕ) → member x (regions_in q) ≡ true → inside C q x ≡ true
    region-inside x h = sym (region_members C (within S) q from (candidate-edge C q cand) (candidate-inside C q cand) x) ∙ h

    pub loose_outside : (x i : ℕ) → i < C.count → Single C i x → no_ramp C i ≡ false → inside C q x ≡ true → ⊥
    loose_outside x i l s w h = loose_edge q from (candidate-edge C q cand) x i l s w h

  -- a candidate and its two ports
  pub record Fit (q a b : ℕ) : Type 0 where
    pub from : 1 ≤ q
    pub cand : candidate C q ≡ true
    pub first : a < C.count
    pub second : b < C.count
    pub differ : a ≡ b → ⊥
    pub first_ramp : no_ramp C a ≡ false
    pub second_ramp : no_ramp C b ≡ false

  abbrev stage : ℕ → ℕ → Expansion
  stage q a = expand_port C (own C q) a

  module _ {q a b : ℕ} (F : Fit q a b) where
    -- a region found is one of the component, or a leaf of one of the two ports
    first_stage : (x : ℕ) → member x (stage q a).regions ≡ true → (inside C q x ≡ true) ⊎ Leaf C a (own C q) x
    first_stage x h = ⊎_elim (λ k. inl (region-inside q F.from F.cand x k)) (λ k. inr k) (port-leaf C a (own C q) x h)

    -- what is a region of another component is none of these
    outside_first : (r : ℕ) → 1 ≤ r → candidate C r ≡ true → (q ≡ r → ⊥) → (y : ℕ) → inside C r y ≡ true → member y (stage q a).regions ≡ true → ⊥
    outside_first r k c n y h m = ⊎_elim
        (λ e. n (sym (eqb-true (component_of C (components C) y) q e) ∙ eqb-true (component_of C (components C) y) r h))
        (λ e. loose_outside r k c y a F.first e.single F.first_ramp h) (first_stage y m)

    outside-both : (r : ℕ) → 1 ≤ r → candidate C r ≡ true → (q ≡ r → ⊥) → (y : ℕ) → inside C r y ≡ true → member y (expanded_of C q a b).regions ≡ true → ⊥
    outside-both r k c n y h m = ⊎_elim (outside_first r k c n y h) (λ e. loose_outside r k c y b F.second e.single F.second_ramp h) (port-leaf C b (stage q a) y m)

    -- what stands beside something at the second port is no leaf of the first
    second-own : (y : ℕ) → member y (stage q a).regions ≡ true → is_incident C b y ≡ true → inside C q y ≡ true
    second-own y m h = ⊎_elim (λ e. e) (λ e. absurd (F.differ (single_same C e.single F.first F.second h))) (first_stage y m)

    first_own : (y : ℕ) → member y (own C q).regions ≡ true → is_incident C a y ≡ true → inside C q y ≡ true
    first_own y m h = region-inside q F.from F.cand y m

  -- a leaf of both beyond a port that they have in common
  shared : (i : ℕ) (s t : Expansion) (inner : ℕ → Bool) → (expand_port C s i).valid ≡ true
      → ((y : ℕ) → inner y ≡ true → member y (expand_port C s i).regions ≡ true → ⊥) → ((y : ℕ) → member y t.regions ≡ true → is_incident C i y ≡ true → inner y ≡ true)
      → (x : ℕ) → member x (expand_port C s i).regions ≡ true → Leaf C i t x → ⊥
  shared i s t inner v out mine x h k =
      let w = exterior-beside t.regions k.exterior (C.pairs i) k.marked in
      not_both_lem C i s v k.beside h (other-inside C i s v w.1.1 (none w.0 (mine w.0 w.1.0 (beside_incident C i w.1.1))))
    where
      none : (y : ℕ) → inner y ≡ true → member y (expand_port C s i).regions ≡ false
      none y e = go (member y (expand_port C s i).regions) refl
        where
          go : (b : Bool) → member y (expand_port C s i).regions ≡ b → b ≡ false
          go true d = absurd (out y e d)
          go false d = refl

  module _ {q a b r c d : ℕ} (F : Fit q a b) (G : Fit r c d) (n : q ≡ r → ⊥) (v : (expanded_of C q a b).valid ≡ true) where
    -- a leaf of q beyond port i, whose stage is s, and a leaf of r
    both-leaves : (i : ℕ) (s : Expansion) → i < C.count → (expand_port C s i).valid ≡ true → ((y : ℕ) → inside C r y ≡ true → member y (expand_port C s i).regions ≡ true → ⊥)
        → (x : ℕ) → Single C i x → member x (expand_port C s i).regions ≡ true → (Leaf C c (own C r) x) ⊎ (Leaf C d (stage r c) x) → ⊥
    both-leaves i s l w out x one h k = ⊎_elim
        (λ e. shared i s (own C r) (inside C r) w out (λ y m z. first_own G y m (subst (λ j. is_incident C j y ≡ true) (same G.first e.single) z)) x h (subst (λ j. Leaf C j (own C r) x) (sym (same G.first e.single)) e))
        (λ e. shared i s (stage r c) (inside C r) w out (λ y m z. second-own G y m (subst (λ j. is_incident C j y ≡ true) (same G.second e.single) z)) x h (subst (λ j. Leaf C j (stage r c) x) (sym (same G.second e.single)) e)) k
      where
        same : {j : ℕ} → j < C.count → Single C j x → i ≡ j
        same m u = single_same C one l m u.mine

    pub regions-apart : (x : ℕ) → member x (expanded_of C q a b).regions ≡ true → member x (expanded_of C r c d).regions ≡ true → ⊥
    regions-apart x h k = ⊎_elim in_first in_second (port-leaf C b (stage q a) x h)
      where
        -- x as a region of r
        of_r : (inside C r x ≡ true) ⊎ ((Leaf C c (own C r) x) ⊎ (Leaf C d (stage r c) x))
        of_r = ⊎_elim (λ m. ⊎_elim (λ e. inl e) (λ e. inr (inl e)) (first_stage G x m)) (λ e. inr (inr e)) (port-leaf C d (stage r c) x k)

        valid_first : (stage q a).valid ≡ true
        valid_first = port-valid C b (stage q a) v

        in_first : member x (stage q a).regions ≡ true → ⊥
        in_first m = ⊎_elim (λ e. outside_first F r G.from G.cand n x e m)
            (λ e. ⊎_elim
            (λ o. ⊎_elim (λ u. loose_outside q F.from F.cand x c G.first u.single G.first_ramp o) (λ u. loose_outside q F.from F.cand x d G.second u.single G.second_ramp o) e)
            (λ o. both-leaves a (own C q) F.first valid_first (outside_first F r G.from G.cand n) x o.single m e) (first_stage F x m)) of_r

        in_second : Leaf C b (stage q a) x → ⊥
        in_second o = ⊎_elim (λ e. loose_outside r G.from G.cand x b F.second o.single F.second_ramp e)
            (λ e. both-leaves b (stage q a) F.second v (outside-both F r G.from G.cand n) x o.single h e) of_r

    -- an edge of both has all its pairs in each
    pub edges-apart : (i : ℕ) → i < C.count → edge C q i ≡ true → edge C r i ≡ true → ⊥
    unfolding is_edge spoils_at
    edges-apart i l h k =
        let t = both (is_ordinary C i) (any (λ p. eqb (component_of C (components C) p.lo) r) (C.pairs i)) k in
        let p = any_found (λ p. eqb (component_of C (components C) p.lo) r) (C.pairs i) t.1 in
        n (sym (eqb-true (component_of C (components C) p.0.lo) q (all_at (all-holds (λ p. eqb (component_of C (components C) p.lo) q) (C.pairs i) (whole (all_in_lem C q i) (any C.anchored (regions_of (C.pairs i))) (sym (ap (λ b. b && (not (all_in_lem C q i) || any C.anchored (regions_of (C.pairs i)))) h) ∙ candidate_unspoilt C q F.cand i l))) p.1)) ∙ eqb-true (component_of C (components C) p.0.lo) r p.2)
      where
        whole : (a b : Bool) → (not a || b) ≡ false → a ≡ true
        whole true b e = refl
        whole false b e = absurd (true≢false e)
