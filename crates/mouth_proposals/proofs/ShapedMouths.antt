-- `shaped_mouth` of the definitions is the proposal of the approach. The argument: a region that the mouth's pairs and the ramp's name is an incident of both, so that
-- its count of incidents alone says whether they are its only ones. Assumes nothing.
use Prim.Native.Nat.{ℕ, ◌≤◌}
use native.Mathlib.Omega.{arith}
use mathlib.Core.Path.{◌≡◌, refl, sym, ap, ap₂, ◌∙◌, subst}
use mathlib.Core.Bool.{Bool, true, false, not, ◌&&◌, ◌||◌, cond, or_comm, or-true}
use Rattle.std.specs.Prelude.{Option, None, Some}
use mathlib.Core.List.{List, [], ◌∷◌, Memᴰ}
use lib.ListN.{length}
use lib.Dec.{eqb, leb}
use borrow.Author.Tests.{eq-eqb, ne_eqb}
use Rattle.definitions.specs.Scan.{any, all, filter, only_if}
use Rattle.definitions.specs.Grid.{Pair, contains}
use Rattle.definitions.specs.MouthShapes.{MouthShape, single, star, regions_of, distinct_regions, mouth_shape}
use Rattle.definitions.specs.Context.{Context, full_pair, other_region, is_incident, incident_count}
use Rattle.definitions.specs.RampMouths.{MouthProposal, only_incidents, other_end_incident, broad_mouth, overlay_only, separation_of, approach_fits, two_port_broad, single_mouth, star_mouth, shaped_mouth}
use Rattle.laws.specs.ListLaws.Lists.{All, done, more, all_map, all_both, all_filter}
use Rattle.laws.specs.ListLaws.NumberLists.{all-add_all}
use Rattle.laws.specs.ListLaws.Members.{filter_passes, all_members, any-member}
use Rattle.laws.specs.RustMouths.MouthKept.{all-agree}
use Rattle.mouth_proposals.specs.Rows.{is_outer, inner_of, one_of}
use Rattle.mouth_proposals.specs.Candidates.{single_at, star_at, approach_of, proposal_of, broad, plain, single_fits, star_fits, approach_mouth}
use Rattle.mouth_proposals.specs.declared.approaches.Approach.TheVariants as approach
use Rattle.mouth_proposals.proofs.ShapeTests.{all_distinct}
use Rattle.mouth_proposals.proofs.ApproachLaws.{Named, single-pairs, one_inner, full-pairs, all_of_one}
use Rattle.mouth_proposals.proofs.StarShapes.{Star, star_is}
use Rattle.mouth_proposals.proofs.Fitting.{fits_in}

-- ---- lists

pub all_of-filter : (e g : ℕ → Bool) (l : List ℕ) → all g (filter (λ s. not (e s)) l) ≡ all (λ s. e s || g s) l
unfolding all filter
all_of-filter e g [] = refl
all_of-filter e g (x ∷ l) = go (e x) (all_of-filter e g l)
  where
    go : (b : Bool) → all g (filter (λ s. not (e s)) l) ≡ all (λ s. e s || g s) l
        → all g (cond (not b) (x ∷ filter (λ s. not (e s)) l) (filter (λ s. not (e s)) l)) ≡ ((b || g x) && all (λ s. e s || g s) l)
    go true ih = ih
    go false ih = ap (λ b. g x && b) ih

all_of-both : (g h : ℕ → Bool) (l : List ℕ) → all (λ s. not (g s) && h s) l ≡ (not (any g l) && all h l)
unfolding all any
all_of-both g h [] = refl
all_of-both g h (x ∷ l) = ap (λ b. (not (g x) && h x) && b) (all_of-both g h l) ∙ go (g x) (h x) (any g l) (all h l)
  where
    go : (a b c d : Bool) → ((not a && b) && (not c && d)) ≡ (not (a || c) && (b && d))
    go true b c d = refl
    go false true c d = refl
    go false false true d = refl
    go false false false d = refl

all_two : {P : ℕ → Type 0} {Q : Pair → Type 0} {l : List Pair} → ((p : Pair) → Q p → P p.lo × P p.hi) → All Q l → All P (regions_of l)
all_two f done = done
all_two f (more {x = p} h a) = more (f p h).0 (more (f p h).1 (all_two f a))

module _ (C : Context) (m a : ℕ) where
  abbrev made : List ℕ → List ℕ → Bool → MouthProposal
  made outer inner two =
      record {
        mouth_index = m;
        ramp_index = a;
        outer = outer;
        inner = inner;
        is_triangle = false;
        two_port_broad_approach = two;
        separation = separation_of C m a;
      }

  made_is : (o : ℕ) {i : List ℕ} → inner_of (Some o) (C.pairs m) ≡ i → {t : Bool} (k : Bool) → t ≡ k → made (o ∷ []) i t ≡ proposal_of C m a (Some o) (cond k broad plain)
  unfolding proposal_of
  made_is o {i} e k f = (λ j. made (o ∷ []) (sym e j) (f j)) ∙ go k
    where
      go : (k : Bool) → made (o ∷ []) (inner_of (Some o) (C.pairs m)) k ≡ proposal_of C m a (Some o) (cond k broad plain)
      go true = refl
      go false = refl

  only_two : (r : ℕ) → is_incident C m r ≡ true → is_incident C a r ≡ true → only_incidents C r m a ≡ eqb (incident_count C r) 2
  unfolding only_incidents
  only_two r e f = (λ i. eqb (incident_count C r) 2 && e i && f i) ∙ go (eqb (incident_count C r) 2)
    where
      go : (b : Bool) → (b && true && true) ≡ b
      go true = refl
      go false = refl

  -- ---- a mouth of one pair

  module _ (p : Pair) (r o : ℕ) (beyond : other_region r p ≡ o) (either : (C.anchored p.lo || C.anchored p.hi) ≡ (C.anchored r || C.anchored o)) (inner : inner_of (Some o) (C.pairs m) ≡ r ∷ []) (mine : is_incident C m r ≡ true) (ramp : is_incident C a r ≡ true) where
    single_fits_lem : approach_fits C m a r (r ∷ []) true (C.anchored p.lo || C.anchored p.hi) ≡ single_fits C m a o r
    unfolding approach_fits any single_fits
    single_fits_lem =
        (λ i. not (C.anchored r || false) && not (overlay_only C m a && (not true || either i || not (only_two r mine ramp i))) && not (other_end_incident C a r) && (true || only_incidents C r m a && all (λ s. eqb s r || eqb (incident_count C s) 1 && is_incident C m s) (r ∷ [])))
        ∙ go (C.anchored r) (overlay_only C m a) (C.anchored o) (eqb (incident_count C r) 2) (other_end_incident C a r) (only_incidents C r m a && all (λ s. eqb s r || eqb (incident_count C s) 1 && is_incident C m s) (r ∷ []))
      where
        go : (x o y t e z : Bool) → (not (x || false) && not (o && (not true || (x || y) || not t)) && not e && (true || z)) ≡ (not x && (not (o && (y || not t)) && not e))
        go true o y t e z = refl
        go false true true t e z = refl
        go false true false true true z = refl
        go false true false true false z = refl
        go false true false false e z = refl
        go false false y t true z = refl
        go false false y t false z = refl

    single_two : two_port_broad C m a r (r ∷ []) true ≡ ((broad_mouth C m a || overlay_only C m a) && eqb (incident_count C r) 2)
    unfolding two_port_broad
    single_two = ap (λ b. (broad_mouth C m a || overlay_only C m a) && true && b) (only_two r mine ramp) ∙ go (broad_mouth C m a || overlay_only C m a)
      where
        go : (b : Bool) → (b && true && eqb (incident_count C r) 2) ≡ (b && eqb (incident_count C r) 2)
        go true = refl
        go false = refl

    single-made : only_if (approach_fits C m a r (r ∷ []) true (C.anchored p.lo || C.anchored p.hi)) (made (other_region r p ∷ []) (r ∷ []) (two_port_broad C m a r (r ∷ []) true)) ≡ approach_mouth C m a (Some (approach.Single (record { outer = other_region r p; approach = r })))
    unfolding approach_mouth
    single-made =
        ap₂ only_if single_fits_lem (ap (λ o. made (o ∷ []) (r ∷ []) (two_port_broad C m a r (r ∷ []) true)) beyond ∙ made_is o inner ((broad_mouth C m a || overlay_only C m a) && eqb (incident_count C r) 2) single_two)
        ∙ ap (λ o. approach_mouth C m a (Some (approach.Single (record { outer = o; approach = r })))) (sym beyond)

  module _ (p q : Pair) {n : ℕ} (np : Named n p) (one : C.pairs m ≡ p ∷ []) (ramp : C.pairs a ≡ q ∷ []) where
    incident_mouth : (r : ℕ) → contains r p ≡ true → is_incident C m r ≡ true
    unfolding is_incident any
    incident_mouth r e = ap (any (contains r)) one ∙ ap (λ b. b || false) e

    incident_ramp : (r : ℕ) → contains r q ≡ true → is_incident C a r ≡ true
    unfolding is_incident any
    incident_ramp r e = ap (any (contains r)) ramp ∙ ap (λ b. b || false) e

    apart-lo : eqb p.lo p.hi ≡ false
    apart-lo = ne_eqb p.lo p.hi (λ k. omega (arith, k))

    apart-hi : eqb p.hi p.lo ≡ false
    apart-hi = ne_eqb p.hi p.lo (λ k. omega (arith, k))

    by_lo : contains p.lo q ≡ true → only_if (approach_fits C m a p.lo (p.lo ∷ []) true (C.anchored p.lo || C.anchored p.hi)) (made (other_region p.lo p ∷ []) (p.lo ∷ []) (two_port_broad C m a p.lo (p.lo ∷ []) true)) ≡ approach_mouth C m a (Some (approach.Single (record { outer = other_region p.lo p; approach = p.lo })))
    by_lo e =
        single-made p p.lo p.hi (ap (λ b. cond b p.hi p.lo) (eq-eqb p.lo p.lo refl)) refl
        (ap (inner_of (Some p.hi)) one ∙ one_inner p p.hi np apart-lo (eq-eqb p.hi p.hi refl))
        (incident_mouth p.lo (ap (λ b. b || eqb p.hi p.lo) (eq-eqb p.lo p.lo refl))) (incident_ramp p.lo e)

    by_hi : contains p.hi q ≡ true → only_if (approach_fits C m a p.hi (p.hi ∷ []) true (C.anchored p.lo || C.anchored p.hi)) (made (other_region p.hi p ∷ []) (p.hi ∷ []) (two_port_broad C m a p.hi (p.hi ∷ []) true)) ≡ approach_mouth C m a (Some (approach.Single (record { outer = other_region p.hi p; approach = p.hi })))
    by_hi e =
        single-made p p.hi p.lo (ap (λ b. cond b p.hi p.lo) apart-lo) (or_comm (C.anchored p.lo) (C.anchored p.hi))
        (ap (inner_of (Some p.lo)) one ∙ one_inner p p.lo np (eq-eqb p.lo p.lo refl) apart-hi)
        (incident_mouth p.hi (ap (λ b. eqb p.lo p.hi || b) (eq-eqb p.hi p.hi refl) ∙ or-true (eqb p.lo p.hi))) (incident_ramp p.hi e)

    -- what the filter of the two regions leaves
    single_case : single_mouth C m a p (filter (λ r. contains r q) (p.lo ∷ p.hi ∷ [])) ≡ approach_mouth C m a (single_at p (one_of (filter (λ r. contains r q) (p.lo ∷ p.hi ∷ []))))
    unfolding filter single_mouth
    single_case = go (contains p.lo q) refl (contains p.hi q) refl
      where
        empty : None ≡ approach_mouth C m a None
        empty = unfold approach_mouth in refl

        go : (b : Bool) → contains p.lo q ≡ b → (c : Bool) → contains p.hi q ≡ c
            → single_mouth C m a p (cond b (p.lo ∷ cond c (p.hi ∷ []) []) (cond c (p.hi ∷ []) [])) ≡ approach_mouth C m a (single_at p (one_of (cond b (p.lo ∷ cond c (p.hi ∷ []) []) (cond c (p.hi ∷ []) []))))
        go true e true f = empty
        go true e false f = by_lo e
        go false e true f = by_hi f
        go false e false f = empty

  -- ---- a star

  module _ (outer r : ℕ) (inner : List ℕ) (inside : inner ≡ inner_of (Some outer) (C.pairs m)) (several : leb (length inner) 1 ≡ false) (every : All (λ s. is_incident C m s ≡ true) inner) (mine : is_incident C m r ≡ true) (ramp : is_incident C a r ≡ true) where
    abbrev leaf : ℕ → Bool
    leaf s = eqb s r || eqb (incident_count C s) 1

    leaves : all (λ s. eqb s r || eqb (incident_count C s) 1 && is_incident C m s) inner ≡ all leaf inner
    leaves = all-agree _ _ (λ s e. ap (λ b. eqb s r || b) (ap (λ b. eqb (incident_count C s) 1 && b) e ∙ go (eqb (incident_count C s) 1))) every
      where
        go : (b : Bool) → (b && true) ≡ b
        go true = refl
        go false = refl

    fit_is : all (fits_in C m a outer r) (regions_of (C.pairs m)) ≡ (not (any C.anchored inner) && all leaf inner)
    unfolding inner_of
    fit_is =
        sym (all_distinct (fits_in C m a outer r) (C.pairs m)) ∙ sym (all_of-filter (λ s. eqb s outer) (λ s. not (C.anchored s) && leaf s) (distinct_regions (C.pairs m)))
        ∙ ap (all (λ s. not (C.anchored s) && leaf s)) (sym inside) ∙ all_of-both C.anchored leaf inner

    star_fits_lem : approach_fits C m a r inner false (any C.anchored inner) ≡ star_fits C m a outer r
    unfolding approach_fits star_fits
    star_fits_lem =
        (λ i. not (any C.anchored inner) && not (overlay_only C m a && (not false || any C.anchored inner || not (only_incidents C r m a))) && not (other_end_incident C a r) && (several i || only_two r mine ramp i && leaves i))
        ∙ go (any C.anchored inner) (overlay_only C m a) (eqb (incident_count C r) 2) (all leaf inner) (other_end_incident C a r) (only_incidents C r m a)
        ∙ sym (ap (λ f. not (overlay_only C m a) && (eqb (incident_count C r) 2 && (f && not (other_end_incident C a r)))) fit_is)
      where
        go : (x o t q e w : Bool) → (not x && not (o && (not false || x || not w)) && not e && (false || t && q)) ≡ (not o && (t && ((not x && q) && not e)))
        go true true t q e w = refl
        go true false true q e w = refl
        go true false false q e w = refl
        go false true t q e w = refl
        go false false true true true w = refl
        go false false true true false w = refl
        go false false true false true w = refl
        go false false true false false w = refl
        go false false false q true w = refl
        go false false false q false w = refl

    star_two : two_port_broad C m a r inner false ≡ broad_mouth C m a
    unfolding two_port_broad
    star_two = ap (λ b. cond b ((broad_mouth C m a || overlay_only C m a) && false && only_incidents C r m a) (broad_mouth C m a)) several

    star-made : only_if (approach_fits C m a r inner false (any C.anchored inner)) (made (outer ∷ []) inner (two_port_broad C m a r inner false)) ≡ approach_mouth C m a (Some (approach.Star (record { outer = outer; approach = r })))
    unfolding approach_mouth
    star-made = ap₂ only_if star_fits_lem (made_is outer (sym inside) (broad_mouth C m a) star_two)

  -- every inner region is an incident, from 1 on
  inner_incident : {n : ℕ} → All (Named n) (C.pairs m) → (outer : Option ℕ) → All (λ s. (1 ≤ s) × (is_incident C m s ≡ true)) (inner_of outer (C.pairs m))
  unfolding inner_of is_incident distinct_regions
  inner_incident {n} named outer = all_filter (λ r. not (is_outer outer r)) (all-add_all done (all_two both (all_both named (all_members (C.pairs m)))))
    where
      both : (p : Pair) → Named n p × Memᴰ p (C.pairs m) → ((1 ≤ p.lo) × (any (contains p.lo) (C.pairs m) ≡ true)) × ((1 ≤ p.hi) × (any (contains p.hi) (C.pairs m) ≡ true))
      both p (h, i) = (
        (h.0, any-member (contains p.lo) i (ap (λ b. b || eqb p.hi p.lo) (eq-eqb p.lo p.lo refl))),
        (omega arith, any-member (contains p.hi) i (ap (λ b. eqb p.lo p.hi || b) (eq-eqb p.hi p.hi refl) ∙ or-true (eqb p.lo p.hi))),
      )

  module _ (q : Pair) {n : ℕ} (named : All (Named n) (C.pairs m)) (ramp : C.pairs a ≡ q ∷ []) (outer : ℕ) (inner : List ℕ) (S : Star n (C.pairs m) outer inner) where
    mine : All (λ s. (1 ≤ s) × (is_incident C m s ≡ true)) inner
    mine = subst (All (λ s. (1 ≤ s) × (is_incident C m s ≡ true))) (sym S.inside) (inner_incident named (Some outer))

    at_ramp : (r : ℕ) → contains r q ≡ true → is_incident C a r ≡ true
    unfolding is_incident any
    at_ramp r e = ap (any (contains r)) ramp ∙ ap (λ b. b || false) e

    empty-star : None ≡ approach_mouth C m a None
    unfolding approach_mouth
    empty-star = refl

    star-left : {l : List ℕ} → All (λ r. ((1 ≤ r) × (is_incident C m r ≡ true)) × (contains r q ≡ true)) l → star_mouth C m a outer inner l ≡ approach_mouth C m a (star_at outer (one_of l))
    unfolding star_mouth
    star-left done = empty-star
    star-left (more {x = r} h done) =
        star-made outer r inner S.inside S.several (all_map (λ s k. k.1) mine) h.0.1 (at_ramp r h.1)
    star-left (more h (more k t)) = empty-star

    star_case : star_mouth C m a outer inner (filter (λ r. contains r q) inner) ≡ approach_mouth C m a (star_at outer (one_of (filter (λ r. contains r q) inner)))
    star_case = star-left (all_both (all_filter (λ r. contains r q) mine) (filter_passes (λ r. contains r q) inner))

  -- ---- the whole

  pub shaped_is : {n : ℕ} → All (Named n) (C.pairs m) → shaped_mouth C m a (full_pair C a) (mouth_shape true (C.pairs m)) ≡ approach_mouth C m a (approach_of (full_pair C a) (mouth_shape true (C.pairs m)))
  unfolding shaped_mouth approach_mouth
  shaped_is {n} named = go (full_pair C a) refl (mouth_shape true (C.pairs m)) refl
    where
      go : (o : Option Pair) → full_pair C a ≡ o → (s : Option MouthShape) → mouth_shape true (C.pairs m) ≡ s → shaped_mouth C m a o s ≡ approach_mouth C m a (approach_of o s)
      go None e s f = refl
      go (Some q) e None f = refl
      go (Some q) e (Some (single p)) f =
          let one = single-pairs (C.pairs m) p (sym f) in
          single_case p q (all_of_one one named) one (full-pairs C a q (sym e))
      go (Some q) e (Some (star outer inner)) f = star_case q named (full-pairs C a q (sym e)) outer inner (star_is (C.pairs m) named outer inner f)
