-- What is found at the places of rows is what is asked of the regions that a component expands to (`judged_two`), and where nothing was found, nothing is
-- (`judged_none`). The boundaries whose owners are accepted are those that the pass removes (`marked-removed`). Assumes Sound.
use Prim.Native.Nat.{ℕ, suc, ◌-◌, ◌*◌, ◌≤◌, ◌<◌}
use native.Mathlib.Omega.{arith}
use mathlib.Core.Path.{◌≡◌, refl, sym, ap, ap₂, subst, ◌∙◌}
use mathlib.Core.Bool.{Bool, true, false, not, ◌&&◌, ◌||◌, cond, and-false, true≢false, false≢true}
use mathlib.Core.List.{List, [], ◌∷◌}
use lib.ListN.{get_or}
use lib.Dec.{eqb, ltb, leb}
use borrow.Author.Tests.{eq-eqb, eqb-true, leb-true, ltb-true, ltb-false, le-leb}
use Rattle.std.specs.Prelude.{None}
use Rattle.definitions.specs.Scan.{any, all, member, any_below_lem, all_below}
use Rattle.definitions.specs.RegionRecord.{has_ramp}
use Rattle.definitions.specs.Context.{Context}
use Rattle.definitions.specs.RampInteriors.{region_fits, removed}
use Rattle.laws.specs.ListLaws.Tests.{both, same_test, or_right}
use Rattle.laws.specs.ListLaws.Below.{below_at, below_first, below_none, all_below_at}
use Rattle.laws.specs.ListLaws.ListsAsSets.{any-member}
use Rattle.laws.specs.ListLaws.ScanSteps.{all_intro, any-fails_at}
use Rattle.laws.specs.SetLaws.Sets.{member-all}
use Rattle.laws.specs.RustContext.SoundContext.{Sound}
use Rattle.context.specs.Shown.{ShownPairs}
use Rattle.context.specs.declared.found_regions.FoundRegions.{FoundRegions}
use Rattle.context.specs.declared.found_regions.FoundRegions.TheVariants as owner-is
use Rattle.interior_proposals.specs.Owners.{one_owner, owned_by, name_of, owner_at, name_at, edge, Owners}
use Rattle.interior_proposals.specs.Leaves.{Inside}
use Rattle.interior_proposals.specs.Proposals.{expanded_of, proposed_ports, owned_before, is_first, found_ports, records_fit}
use Rattle.interior_proposals.specs.Candidates.{both_ports}
use Rattle.interior_proposals.proofs.RowScans.{all-holds}
use Rattle.interior_proposals.proofs.CandidateLaws.{edge-owned, candidate_unspoilt}
use Rattle.interior_proposals.proofs.NoConflict.{Fit}
use Rattle.interior_proposals.proofs.Commons.{owned_one}
use Rattle.interior_proposals.proofs.Removed.{fit_of, is_proposal, removed_none, removed-owned, proposal_is}
use Rattle.interior_proposals.proofs.ProgressLaws.{first_region, first_unmet, first_is, none_first, proposed_two, found_first}
use Rattle.interior_regions.specs.Places.{region_at, is_named, fits_at, ramp_at, interior_fits_lem}
use Rattle.interior_regions.specs.Marks.{accepted, marked_before, EndOf}
use Rattle.interior_regions.proofs.PlaceLaws.{place-readable, Placed, incident_placed, Spanned, expanded_incident}

-- ---- tests of the members of a list

member-found : (f : ℕ → Bool) (l : List ℕ) → any f l ≡ true → (x : ℕ) × ((member x l ≡ true) × (f x ≡ true))
unfolding any member
member-found f [] h = absurd (false≢true h)
member-found f (y ∷ l) h = go (f y) refl h (member-found f l)
  where
    go : (t : Bool) → f y ≡ t → (t || any f l) ≡ true → (any f l ≡ true → (x : ℕ) × ((member x l ≡ true) × (f x ≡ true))) → (x : ℕ) × ((member x (y ∷ l) ≡ true) × (f x ≡ true))
    go true e k ih = (y, (ap (λ b. b || member y l) (eq-eqb y y refl), e))
    go false e k ih =
        let w = ih k in
        (w.0, (or_right (eqb w.0 y) (member w.0 l) w.1.0, w.1.1))

all_members_pass : (f : ℕ → Bool) (l : List ℕ) → ((x : ℕ) → member x l ≡ true → f x ≡ true) → all f l ≡ true
unfolding all member any
all_members_pass f [] h = refl
all_members_pass f (y ∷ l) h = ap₂ ◌&&◌ (h y (ap (λ b. b || member y l) (eq-eqb y y refl))) (all_members_pass f l (λ x m. h x (or_right (eqb x y) (member x l) m)))

-- ---- one component

module _ {C : Context} (S : Sound C) {rows starts names : List ℕ} (P : ShownPairs C rows starts) {r a b low high : ℕ} (F : Fit C S r a b) (N : Spanned C r a b low high) (I : Inside C r (expanded_of C r a b).regions names) where
  rising : low ≤ high
  rising = omega (arith, N.first.0, N.first.1)

  abbrev regions : List ℕ
  regions = (expanded_of C r a b).regions

  abbrev begin : ℕ
  begin = 2 * get_or starts low 0

  abbrev end : ℕ
  end = 2 * get_or starts high 0

  -- at a place that is asked stands a region of the expansion
  place-member : (k : ℕ) → k < end → (leb begin k && is_named rows names r k) ≡ true → member (region_at rows k) regions ≡ true
  place-member k l h =
      let t = both (leb begin k) (is_named rows names r k) h in
      let w = place-readable P low high N.upto rising k (leb-true begin k t.0) l in
      sym (I.at (region_at rows k) w.from w.upto) ∙ t.1

  -- each of these stands at such a place
  member-placed : (x : ℕ) → member x regions ≡ true → Placed P low high N.upto rising x
  member-placed x h =
      let w = expanded_incident S F N x h in
      incident_placed P low high N.upto rising w.0 x w.1.0 w.1.1.0 w.1.1.1

  member-asked : {x : ℕ} → member x regions ≡ true → (p : Placed P low high N.upto rising x) → (leb begin p.place && is_named rows names r p.place) ≡ true
  member-asked {x} h p =
      let w = place-readable P low high N.upto rising p.place p.from p.upto in
      ap₂ ◌&&◌ (le-leb begin p.place p.from) (I.at (region_at rows p.place) w.from w.upto ∙ ap (λ y. member y regions) p.region ∙ h)

  ramp_is : any_below_lem end (ramp_at C rows names r begin a b) ≡ any (λ q. has_ramp (C.region q)) regions
  ramp_is = same_test
      (λ h.
      let f = below_first (ramp_at C rows names r begin a b) end h in
      let t = both (leb begin f.place && is_named rows names r f.place) (has_ramp (C.region (region_at rows f.place))) f.found in
      any-member (λ q. has_ramp (C.region q)) (region_at rows f.place) regions (place-member f.place f.below t.0) t.1)
      (λ h.
      let w = member-found (λ q. has_ramp (C.region q)) regions h in
      let p = member-placed w.0 w.1.0 in
      below_at end (ramp_at C rows names r begin a b) p.place p.upto (ap₂ ◌&&◌ (member-asked w.1.0 p) (ap (λ q. has_ramp (C.region q)) p.region ∙ w.1.1)))

  fits-are : all_below end (fits_at C rows names r begin a b) ≡ all (region_fits C a b) regions
  fits-are = same_test
      (λ h. all_members_pass (region_fits C a b) regions (λ x m.
      let p = member-placed x m in
      sym (ap₂ (λ t y. not t || region_fits C a b y) (member-asked m p) p.region) ∙ all_below_at end (fits_at C rows names r begin a b) h p.place p.upto))
      (λ h. all_intro (fits_at C rows names r begin a b) end (λ k l. at k l h (leb begin k && is_named rows names r k) refl))
    where
      at : (k : ℕ) → k < end → all (region_fits C a b) regions ≡ true → (t : Bool) → (leb begin k && is_named rows names r k) ≡ t → (not t || region_fits C a b (region_at rows k)) ≡ true
      at k l h true e = member-all (λ y. region_fits C a b y ≡ true) (region_at rows k) (all-holds (region_fits C a b) regions h) (place-member k l e)
      at k l h false e = refl

  pub interior_is : interior_fits_lem C rows names r begin a b end ≡ records_fit C r (both_ports a b)
  unfolding interior_fits_lem records_fit
  interior_is = ap₂ ◌&&◌ ramp_is fits-are

-- ---- what was found at boundary i

module _ {C : Context} (S : Sound C) (owners : List FoundRegions) (O : Owners C owners) (i : ℕ) (l : i < C.count) where
  abbrev owner : ℕ
  owner = name_at owners i

  pub found-fit : {a b : ℕ} → found_ports C owners i ≡ both_ports a b → Fit C S owner a b
  found-fit e =
      let w = found_first C owners i e in
      let t = proposed_two C owner w.1 in
      fit_of C S owner (first_region owners O i l w.0).0 t.0 t.1.0 t.1.1.0

  pub judged_two : {rows starts names : List ℕ} → ShownPairs C rows starts → {a b low high : ℕ} → (e : found_ports C owners i ≡ both_ports a b) → Spanned C owner a b low high → Inside C owner (expanded_of C owner a b).regions names
      → interior_fits_lem C rows names owner (2 * get_or starts low 0) a b (2 * get_or starts high 0) ≡ accepted C owners i
  unfolding accepted
  judged_two P e N I = interior_is S P (found-fit e) N I ∙ ap (records_fit C owner) (sym e)

  -- the edges of what was found are from i on, and before the number after the last that has the owner
  pub found-spanned : {a b low high n count : ℕ} → found_ports C owners i ≡ both_ports a b → C.count ≡ count → EndOf owners count owner n → n ≤ high → high ≤ count → low ≤ i → (low ≤ a) × (a < high) → (low ≤ b) × (b < high) → Spanned C owner a b low high
  unfolding owned_before
  found-spanned {a = a} {b = b} {low = low} {high = high} {n = n} e c E u v s t w = record { upto = omega arith; edges = edges; first = t; second = w }
    where
      F : Fit C S owner a b
      F = found-fit e

      alone : owned_before owners i owner ≡ false
      alone = first_unmet owners i (found_first C owners i e).0

      edges : (j : ℕ) → j < C.count → edge C owner j ≡ true → (low ≤ j) × (j < high)
      edges j m d = (after (ltb j i) refl, before (ltb j n) refl)
        where
          same : owned_by owner (owner_at owners j) ≡ true
          same = edge-owned C owner j F.from (first_region owners O i l (found_first C owners i e).0).1 (O j m) (candidate_unspoilt C owner F.cand j m) ∙ d

          after : (t : Bool) → ltb j i ≡ t → low ≤ j
          after true q = absurd (true≢false (sym same ∙ any-fails_at (λ k. owned_by owner (owner_at owners k)) i alone j (ltb-true j i q)))
          after false q = omega (arith, ltb-false j i q)

          before : (t : Bool) → ltb j n ≡ t → j < high
          before true q = omega (arith, ltb-true j n q)
          before false q = absurd (true≢false (sym same ∙ E.none j (ltb-false j n q) (omega arith)))

  pub judged_none : found_ports C owners i ≡ None → accepted C owners i ≡ false
  unfolding accepted records_fit
  judged_none e = ap (records_fit C owner) e

  -- nothing is accepted where no component is met first
  pub judged_other : ((r : ℕ) → owner_at owners i ≡ one_owner r → ⊥) → accepted C owners i ≡ false
  unfolding found_ports
  judged_other e = judged_none (ap (λ t. cond t (proposed_ports C owner) None) (none_first owners i e))

  -- accepted ones come first, and are proposed
  accepted_first : accepted C owners i ≡ true → (is_first owners i ≡ true) × (records_fit C owner (proposed_ports C owner) ≡ true)
  unfolding accepted found_ports records_fit
  accepted_first h = go (is_first owners i) refl h
    where
      go : (t : Bool) → is_first owners i ≡ t → records_fit C owner (cond t (proposed_ports C owner) None) ≡ true → (is_first owners i ≡ true) × (records_fit C owner (proposed_ports C owner) ≡ true)
      go true e k = (e, k)
      go false e k = absurd (false≢true k)

  first_accepted : is_first owners i ≡ true → accepted C owners i ≡ records_fit C owner (proposed_ports C owner)
  unfolding accepted found_ports
  first_accepted e = ap (λ t. records_fit C owner (cond t (proposed_ports C owner) None)) e

-- ---- all boundaries

module _ {C : Context} (S : Sound C) (owners : List FoundRegions) (O : Owners C owners) (j : ℕ) (l : j < C.count) where
  abbrev v : FoundRegions
  v = owner_at owners j

  abbrev test : ℕ → Bool
  test k = accepted C owners k && owned_by (name_at owners k) v

  -- a boundary that no component owns stays
  pub marked_none : ((r : ℕ) → owned_by r v ≡ false) → marked_before C owners C.count j ≡ member j (removed C)
  marked_none n = below_none C.count test (λ k m. ap (λ b. accepted C owners k && b) (n (name_at owners k)) ∙ and-false (accepted C owners k)) ∙ sym (removed_none C S j l (O j l) n)

  module _ {r : ℕ} (e : v ≡ one_owner r) where
    -- an accepted boundary with the same owner
    same_owner : (k : ℕ) → k < C.count → test k ≡ true → records_fit C r (proposed_ports C r) ≡ true
    same_owner k m h =
        let t = both (accepted C owners k) (owned_by (name_at owners k) v) h in
        subst (λ x. records_fit C x (proposed_ports C x) ≡ true) {x = name_at owners k} {y = r} (sym (eqb-true r (name_at owners k) (sym (ap (owned_by (name_at owners k)) e) ∙ t.1))) (accepted_first S owners O k m t.0).1

    pub marked_one : any_below_lem C.count test ≡ records_fit C r (proposed_ports C r)
    unfolding owned_before
    marked_one = same_test
        (λ h.
        let f = below_first test C.count h in
        same_owner f.place f.below f.found)
        (λ h.
        let f = below_first (λ k. owned_by r (owner_at owners k)) C.count (below_at C.count (λ k. owned_by r (owner_at owners k)) j l (ap (owned_by r) e ∙ eq-eqb r r refl)) in
        let d = owned_one r (owner_at owners f.place) f.found in
        let g = first_is owners f.place d ∙ ap not f.none in
        below_at C.count test f.place f.below (ap₂ ◌&&◌ (first_accepted S owners O f.place f.below g ∙ ap (λ x. records_fit C x (proposed_ports C x)) (ap name_of d) ∙ h) (ap₂ owned_by (ap name_of d) e ∙ eq-eqb r r refl)))

  pub marked-removed : marked_before C owners C.count j ≡ member j (removed C)
  marked-removed = go v refl
    where
      go : (o : FoundRegions) → v ≡ o → any_below_lem C.count test ≡ member j (removed C)
      go owner-is.None e = marked_none (λ r. ap (owned_by r) e)
      go owner-is.Several e = marked_none (λ r. ap (owned_by r) e)
      go (owner-is.One r) e =
          let h = (O j l).range r e in
          let n : r ≡ suc (r - 1) = omega (arith, h.0) in
          marked_one e ∙ sym (removed-owned C S j l (O j l) (r - 1) (omega (arith, h.0, h.1)) (e ∙ ap one_owner n) ∙ sym (ap (is_proposal C S) n) ∙ proposal_is C S r)
