-- What the Rust's chain of `continue`s finds of a mouth and a ramp is what `triangle_or` and `shaped_mouth` find: each test of the chain is a test of the
-- conjunction in `approach_fits`, and an entry of `incidents` answers as `only_incidents` does. The regions of a triangle are sorted in the Rust, and its union
-- is kept beside outer and inner. Assumes nothing.
use Rattle.std.specs.Prelude.{ℕ, ◌≤◌, ◌<◌, ◌≡◌, ◌&&◌, ◌||◌, length, get_or, Option, None, Some, option_map}
use Rattle.std.proofs.Common.{arith, ◌∙◌, ne_eqb, leb-true, leb-false, le-ltb, lt-ltb}
use Rattle.std.proofs.Math.Path.{refl, sym, ap}
use Rattle.std.proofs.Math.Bool.{Bool, true, false, not, cond, or-false}
use Rattle.std.proofs.lemmas.Bool.{false≢true}
use mathlib.Core.List.{List, [], ◌∷◌}
use Rattle.std.proofs.Math.Dec.{eqb, ltb, leb}
use Rattle.definitions.specs.Scan.{any, all, filter, any_below_lem, only_if, member}
use Rattle.definitions.specs.Sort.{sort}
use Rattle.definitions.specs.Grid.{Pair, contains}
use Rattle.definitions.specs.Context.{Context, no_ramp, is_incident, incident_count, other_region}
use Rattle.definitions.specs.MouthShapes.{MouthShape, single, star}
use Rattle.definitions.specs.RampMouths.{MouthProposal, union_of, only_incidents, other_end_incident, broad_mouth, nearby_representative, overlay_representative, overlay_only, approach_fits, two_port_broad, single_mouth, star_mouth, shaped_mouth, separation_of, triangle_mouth, triangle_or}
use Rattle.laws.specs.OrderLaws.StableSort.{filter-sort}
use Rattle.laws.specs.ListLaws.SortedMembers.{length-sort, sort-parts, number-order}
use Rattle.laws.specs.RustContext.Incidents.{incidents_rust, is_none_or, is_some_and, not-only_one, not-only_two, only_two}
use Rattle.laws.specs.RustMouths.Stars.{other-out}
use Rattle.laws.specs.RustMouths.Triangles.{sorted_regions, any-not}
use Rattle.laws.specs.RustMouths.MouthLiteral.{FoundMouth, find, found_triangle, other_end, nearby, overlay, broad, found_approach, found_outer, found_shape, found_mouth}

-- ---- a proposal, as the Rust has it found

abbrev pub head_of : List ℕ → Option ℕ
head_of [] = None
head_of (x ∷ l) = Some x

abbrev pub inner_rust : MouthProposal → List ℕ
inner_rust p = cond p.is_triangle (sort ltb p.inner) p.inner

abbrev pub union_rust : MouthProposal → List ℕ
union_rust p = cond p.is_triangle (sort ltb (union_of p)) (union_of p)

abbrev pub found_for : MouthProposal → FoundMouth
found_for p = record { outer = head_of p.outer; inner = inner_rust p; union = union_rust p; triangle = p.is_triangle; two_port_broad_approach = p.two_port_broad_approach }

abbrev pub found_of : Option MouthProposal → Option FoundMouth
found_of o = option_map found_for o

-- ---- the tests

long_is : (l : List ℕ) → ltb 1 (length l) ≡ not (leb (length l) 1)
long_is l = go (leb (length l) 1) refl
  where
    go : (b : Bool) → leb (length l) 1 ≡ b → ltb 1 (length l) ≡ not b
    go true e = le-ltb 1 (length l) (leb-true (length l) 1 e)
    go false e = lt-ltb 1 (length l) (leb-false (length l) 1 e)

find_is : (f : ℕ → Bool) (l : List ℕ) → find f l ≡ head_of (filter f l)
unfolding find filter
find_is f [] = refl
find_is f (x ∷ l) = go (f x) (find_is f l)
  where
    go : (b : Bool) → find f l ≡ head_of (filter f l) → cond b (Some x) (find f l) ≡ head_of (cond b (x ∷ filter f l) (filter f l))
    go true ih = refl
    go false ih = ih

sort-short : (l : List ℕ) → length l ≤ 1 → sort ltb l ≡ l
unfolding sort
sort-short [] h = refl
sort-short (x ∷ []) h = refl
sort-short (x ∷ y ∷ l) h = absurd (omega arith)

module _ (C : Context) where
  other_end_lem : (a r : ℕ) → other_end C a r ≡ other_end_incident C a r
  unfolding other_end other_end_incident is_incident
  other_end_lem a r = λ i. any_below_lem C.count (λ j. at j (no_ramp C j) i)
    where
      at : (j : ℕ) (b : Bool) → is_some_and (cond b None (Some (C.boundary j))) (λ other. eqb other.ramp_id (C.boundary a).ramp_id && not (eqb other.kind (C.boundary a).kind) && any (contains r) (C.pairs j)) ≡ (not b && eqb (C.boundary j).ramp_id (C.boundary a).ramp_id && not (eqb (C.boundary j).kind (C.boundary a).kind) && is_incident C j r)
      at j true = refl
      at j false = refl

  -- ---- the chain

  module _ (a m : ℕ) (ha : a < C.count) (hm : m < C.count) where
    abbrev proposal_of : ℕ → List ℕ → Bool → MouthProposal
    proposal_of outer inner two =
        record {
          mouth_index = m;
          ramp_index = a;
          outer = outer ∷ [];
          inner = inner;
          is_triangle = false;
          two_port_broad_approach = two;
          separation = separation_of C m a;
        }

    -- an inner region other than the approach that has another incident than the mouth
    rest_is : (r : ℕ) (inner : List ℕ) → any (λ region. not (eqb region r) && is_none_or (incidents_rust C region) (λ s. not (eqb (length s) 1) || not (member m s))) inner ≡ not (all (λ s. eqb s r || eqb (incident_count C s) 1 && is_incident C m s) inner)
    rest_is r inner = (λ i. any (λ s. at s i) inner) ∙ any-not (λ s. eqb s r || eqb (incident_count C s) 1 && is_incident C m s) (λ s. eqb s r || eqb (incident_count C s) 1 && is_incident C m s) (λ s. refl) inner
      where
        go : (b c : Bool) → (not b && not c) ≡ not (b || c)
        go true c = refl
        go false c = refl

        at : (s : ℕ) → (not (eqb s r) && is_none_or (incidents_rust C s) (λ s. not (eqb (length s) 1) || not (member m s))) ≡ not (eqb s r || eqb (incident_count C s) 1 && is_incident C m s)
        at s = ap (λ b. not (eqb s r) && b) (not-only_one C s m hm) ∙ go (eqb s r) (eqb (incident_count C s) 1 && is_incident C m s)

    approach_is : (isOne hasAnchored : Bool) (r outer : ℕ) (inner : List ℕ) → found_approach C a m isOne hasAnchored r outer inner ≡ found_of (only_if (approach_fits C m a r inner isOne hasAnchored) (proposal_of outer inner (two_port_broad C m a r inner isOne)))
    unfolding found_approach approach_fits two_port_broad overlay_only broad_mouth nearby_representative overlay_representative
    approach_is isOne hasAnchored r outer inner = tests ∙ go (any C.anchored inner) (oo && (not isOne || hasAnchored || not ONLY)) (other_end_incident C a r) (leb (length inner) 1) ONLY REST ((broad C a m || oo) && isOne && ONLY)
      where
        oo : Bool
        oo = overlay C a m && not (nearby C a m) && not (broad C a m)

        ONLY : Bool
        ONLY = only_incidents C r m a

        REST : Bool
        REST = all (λ s. eqb s r || eqb (incident_count C s) 1 && is_incident C m s) inner

        found : Bool → Option FoundMouth
        found two = Some (found_for (proposal_of outer inner two))

        chain : Bool → Bool → Bool → Bool → Bool → Bool → Option FoundMouth
        chain x y z l w two = cond x None (cond y None (cond z None (cond l (cond w None (found (broad C a m))) (found two))))

        tests : found_approach C a m isOne hasAnchored r outer inner ≡ chain (any C.anchored inner) (oo && (not isOne || hasAnchored || not ONLY)) (other_end_incident C a r) (not (leb (length inner) 1)) (not ONLY || not REST) ((broad C a m || oo) && isOne && ONLY)
        tests = λ i.
            chain (any C.anchored inner) (oo && (not isOne || hasAnchored || not-only_two C r m a hm ha i)) (other_end_lem a r i) (long_is inner i)
            (not-only_two C r m a hm ha i || rest_is r inner i) ((broad C a m || oo) && isOne && only_two C r m a hm ha i)

        go : (x y z l o t two : Bool) → chain x y z (not l) (not o || not t) two ≡ found_of (only_if (not x && not y && not z && (l || o && t)) (proposal_of outer inner (cond l two (broad C a m))))
        go true y z l o t two = refl
        go false true z l o t two = refl
        go false false true l o t two = refl
        go false false false true o t two = refl
        go false false false false true true two = refl
        go false false false false true false two = refl
        go false false false false false t two = refl

    -- ---- the shapes

    outer_is : (p : Pair) (f : ℕ → Bool) (r : ℕ) → filter f (p.lo ∷ p.hi ∷ []) ≡ r ∷ [] → find (λ region. not (eqb region r)) (p.lo ∷ p.hi ∷ []) ≡ Some (other_region r p)
    unfolding find
    outer_is p f r h = go (eqb p.lo r) (eqb p.hi r) (other-out f p.lo p.hi r h)
      where
        go : (s t : Bool) → (not s || not t) ≡ true → cond (not s) (Some p.lo) (cond (not t) (Some p.hi) None) ≡ Some (cond s p.hi p.lo)
        go true true e = absurd (false≢true e)
        go true false e = refl
        go false t e = refl

    single_is : (q p : Pair) → found_shape C a m q (single p) ≡ found_of (shaped_mouth C m a (Some q) (Some (single p)))
    unfolding found_shape found_outer shaped_mouth
    single_is q p = go (filter (λ r. contains r q) (p.lo ∷ p.hi ∷ [])) refl
      where
        go : (l : List ℕ) → filter (λ r. contains r q) (p.lo ∷ p.hi ∷ []) ≡ l → cond (not (eqb (length l) 1)) None (found_outer C a m (single p) (any C.anchored (p.lo ∷ p.hi ∷ [])) (get_or l 0 0) (find (λ region. not (eqb region (get_or l 0 0))) (p.lo ∷ p.hi ∷ []))) ≡ found_of (single_mouth C m a p l)
        go [] h = refl
        go (r ∷ []) h =
            ap (found_outer C a m (single p) (any C.anchored (p.lo ∷ p.hi ∷ [])) r) (outer_is p (λ r. contains r q) r h)
            ∙ ap (λ b. found_approach C a m true (C.anchored p.lo || b) r (other_region r p) (r ∷ [])) (or-false (C.anchored p.hi))
            ∙ approach_is true (C.anchored p.lo || C.anchored p.hi) r (other_region r p) (r ∷ [])
        go (r ∷ s ∷ l) h = rw (ne_eqb (length (r ∷ s ∷ l)) 1 (λ e. omega arith)) refl

    star-found : (q : Pair) (outer : ℕ) (inner : List ℕ) → found_shape C a m q (star outer inner) ≡ found_of (shaped_mouth C m a (Some q) (Some (star outer inner)))
    unfolding found_shape found_outer shaped_mouth
    star-found q outer inner = go (filter (λ r. contains r q) inner)
      where
        go : (l : List ℕ) → cond (not (eqb (length l) 1)) None (found_outer C a m (star outer inner) (any C.anchored inner) (get_or l 0 0) (Some outer)) ≡ found_of (star_mouth C m a outer inner l)
        go [] = refl
        go (r ∷ []) = approach_is false (any C.anchored inner) r outer inner
        go (r ∷ s ∷ l) = rw (ne_eqb (length (r ∷ s ∷ l)) 1 (λ e. omega arith)) refl

    -- ---- a triangle

    anchored_count_lem : (rs : List ℕ) → ltb 1 (length (filter C.anchored (sort ltb rs))) ≡ not (leb (length (filter C.anchored rs)) 1)
    anchored_count_lem rs = ap (λ l. ltb 1 (length l)) (filter-sort ltb number-order C.anchored rs) ∙ ap (ltb 1) (length-sort ltb (filter C.anchored rs)) ∙ long_is (filter C.anchored rs)

    -- the one anchored region, if there is one
    anchored_one : (rs : List ℕ) → length (filter C.anchored rs) ≤ 1 → find C.anchored (sort ltb rs) ≡ head_of (filter C.anchored rs)
    anchored_one rs h = find_is C.anchored (sort ltb rs) ∙ ap head_of (filter-sort ltb number-order C.anchored rs ∙ sort-short (filter C.anchored rs) h)

    triangle-found : (rs : List ℕ) → found_triangle C (sort ltb rs) ≡ found_of (triangle_mouth C m a rs)
    unfolding found_triangle triangle_mouth
    triangle-found rs = rw (anchored_count_lem rs) (go (leb (length (filter C.anchored rs)) 1) refl)
      where
        go : (b : Bool) → leb (length (filter C.anchored rs)) 1 ≡ b
            → cond (not b) None (Some (record { outer = find C.anchored (sort ltb rs); inner = filter (λ r. not (C.anchored r)) (sort ltb rs); union = sort ltb rs; triangle = true; two_port_broad_approach = false }))
            ≡ found_of (only_if b (record { mouth_index = m; ramp_index = a; outer = filter C.anchored rs; inner = filter (λ r. not (C.anchored r)) rs; is_triangle = true; two_port_broad_approach = false; separation = separation_of C m a }))
        go true e = λ i.
            Some
            (record {
              outer = anchored_one rs (leb-true (length (filter C.anchored rs)) 1 e) i;
              inner = filter-sort ltb number-order (λ r. not (C.anchored r)) rs i;
              union = sym (sort-parts C.anchored rs) i;
              triangle = true;
              two_port_broad_approach = false;
            })
        go false e = refl

    -- ---- whatever is found
    pub found_is : (triangle : Option (List ℕ)) (q : Option Pair) (shape : Option MouthShape) → found_mouth C a m (sorted_regions triangle) q shape ≡ found_of (triangle_or C triangle m a (shaped_mouth C m a q shape))
    unfolding found_mouth triangle_or shaped_mouth
    found_is (Some rs) q shape = triangle-found rs
    found_is None None shape = refl
    found_is None (Some q) None = refl
    found_is None (Some q) (Some (single p)) = single_is q p
    found_is None (Some q) (Some (star outer inner)) = star-found q outer inner
