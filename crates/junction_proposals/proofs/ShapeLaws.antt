-- The shape of a union read off the lists is `union_shape`. The argument: where the walk goes through, the ports are the full pairs that name one of the two regions
-- (PortLaws), so that each scan over ports is the same scan; three exteriors make three ports; widths compare as their bits. Assumes that the lists show a context of a map.
use Prim.Native.Nat.{ℕ, ◌+◌, ◌≤◌, ◌<◌}
use native.Mathlib.Omega.{arith}
use mathlib.Core.Path.{◌≡◌, refl, sym, ap, ap₂, ◌∙◌}
use mathlib.Core.Bool.{Bool, true, false, not, ◌&&◌, ◌||◌, and-true}
use Rattle.std.specs.Prelude.{Option, None, Some}
use mathlib.Core.List.{List}
use lib.Dec.{eqb, ltb, leb}
use lib.Ieee.{le}
use borrow.Author.Tests.{leb-true, le-leb}
use Rattle.definitions.specs.Scan.{any_below_lem, all_below, count_below, bit}
use Rattle.definitions.specs.Grid.{Pair}
use Rattle.definitions.specs.Geometry.{center}
use Rattle.definitions.specs.Context.{Context, full_pair, holds, no_ramp, width}
use Rattle.definitions.specs.Junctions.{exterior_of, within_distance, max_port_distance_pixels, is_union_port, is_new_exterior, anchored_regions, is_near_port, ports_fit, is_widest, union_shape}
use Rattle.laws.specs.ListLaws.Below.{below_ext, count_ext}
use Rattle.laws.specs.ListLaws.ScansOfAll.{all_ext, all_and}
use Rattle.laws.specs.ListLaws.ScanSteps.{count_mono}
use Rattle.laws.specs.ListLaws.Tests.{both}
use Rattle.laws.specs.FloatLaws.KeysAsBits.{le_of_bits}
use Rattle.junction_proposals.specs.Lent.{Shows}
use Rattle.junction_proposals.specs.Ports.{pair_of, is_port, walk_fits}
use Rattle.junction_proposals.specs.Unions.{leads_to, leads_anew, width_at, no_ramp_at, is_near, mark_at, marks_of, passes_at, ports_pass, shape_at}
use Rattle.junction_proposals.proofs.PortLaws.{walk_is, port_is}
use Rattle.region_pairs.specs.declared.Pair as declared

-- what is asked of a pair that there may be
holds_ext : (o : Option Pair) (f g : Pair → Bool) → ((q : Pair) → f q ≡ g q) → holds o f ≡ holds o g
holds_ext None f g e = refl
holds_ext (Some q) f g e = e q

-- a new exterior is one of a port
new-port : (C : Context) (i : ℕ) (p : Pair) (j : ℕ) → is_new_exterior C i p j ≡ true → is_union_port C i p j ≡ true
unfolding is_new_exterior
new-port C i p j e = (both (is_union_port C i p j) _ e).0

module _ (boundaries : List ℕ) (full : List (Option declared.Pair)) (counts marks : List ℕ) (C : Context) (S : Shows boundaries full counts marks C.count C.regions C) where
  pub no_ramp_is : (i : ℕ) → i < C.count → no_ramp C i ≡ no_ramp_at boundaries i
  no_ramp_is i l = ap (λ b. eqb b.kind 0) (S.bounds.at i l)

  pub near_is : (i j : ℕ) → i < C.count → j < C.count → is_near_port C i j ≡ is_near boundaries i j
  unfolding is_near_port is_near
  near_is i j a b = ap₂ (λ x y. within_distance (center x.endpoints) (center y.endpoints) max_port_distance_pixels) (S.bounds.at i a) (S.bounds.at j b)

  wide_is : (i j : ℕ) → i < C.count → j < C.count → le (width C j) (width C i) ≡ leb (width_at boundaries j) (width_at boundaries i)
  unfolding width
  wide_is i j a b = le_of_bits (C.boundary j).width_bits (C.boundary i).width_bits (S.sound.finite j b) (S.sound.finite i a) ∙ ap₂ (λ x y. leb x.width_bits y.width_bits) (S.bounds.at j b) (S.bounds.at i a)

  pub anchored_is : (r : ℕ) → 1 ≤ r → r ≤ C.regions → C.anchored r ≡ mark_at marks r
  anchored_is = S.anchored.at

  module _ (i : ℕ) (below : i < C.count) (p : Pair) where
    module _ (own : full_pair C i ≡ Some p) (low : 1 ≤ p.lo) (ordered : p.lo < p.hi) (high : p.hi ≤ C.regions) where
      walk : walk_fits full counts C.count i p ≡ ports_fit C i p
      walk = walk_is C full counts S.pairs S.incidents i p low high ordered own

      anchors : anchored_regions C p ≡ marks_of marks p
      anchors = ap₂ (λ a b. bit a + bit b) (anchored_is p.lo low (omega arith)) (anchored_is p.hi (omega arith) high)

      module _ (fits : walk_fits full counts C.count i p ≡ true) where
        port : (j : ℕ) → j < C.count → is_union_port C i p j ≡ is_port full i p j
        port = port_is C full counts S.pairs S.incidents i p low high ordered fits

        leads : (e k : ℕ) → k < C.count → (is_union_port C i p k && holds (full_pair C k) (λ o. eqb (exterior_of p o) e)) ≡ leads_to full i p e k
        unfolding leads_to
        leads e k l = ap₂ (λ b o. b && holds o (λ o. eqb (exterior_of p o) e)) (port k l) (sym (S.pairs.at k l))

        anew : (j : ℕ) → j < C.count → is_new_exterior C i p j ≡ leads_anew full i p j
        unfolding is_new_exterior leads_anew
        anew j l =
            ap₂ (λ b o. b && holds o first) (port j l) (sym (S.pairs.at j l))
            ∙ ap (λ b. is_port full i p j && b) (holds_ext (pair_of full j) first _ (λ q. ap not (below_ext j _ _ (λ k m. leads (exterior_of p q) k (omega arith)))))
          where
            first : Pair → Bool
            first = λ q. not (any_below_lem j (λ k. is_union_port C i p k && holds (full_pair C k) (λ o. eqb (exterior_of p o) (exterior_of p q))))

        new-count : count_below C.count (is_new_exterior C i p) ≡ count_below C.count (leads_anew full i p)
        new-count = count_ext C.count _ _ anew

        -- as many ports as exteriors, or more
        many-ports : leb 3 (count_below C.count (leads_anew full i p)) ≡ true → leb 3 (count_below C.count (is_union_port C i p)) ≡ true
        many-ports h =
            le-leb 3 (count_below C.count (is_union_port C i p))
            (omega (arith, leb-true 3 (count_below C.count (leads_anew full i p)) h, new-count, count_mono (is_new_exterior C i p) (is_union_port C i p) C.count is_port_lem))
          where
            is_port_lem : (j : ℕ) → j < C.count → is_new_exterior C i p j ≡ true → is_union_port C i p j ≡ true
            is_port_lem j l e = new-port C i p j e

        passes : (one : Bool) → ports_pass boundaries full C.count i p one ≡ (all_below C.count (λ j. not (is_union_port C i p j) || is_near_port C i j) && (not one || is_widest C i p))
        unfolding ports_pass passes_at is_widest
        passes true =
            all_ext (λ j. not (is_port full i p j) || (leb (width_at boundaries j) (width_at boundaries i)) && is_near boundaries i j) (λ j. (not (is_union_port C i p j) || is_near_port C i j) && (not (is_union_port C i p j) || le (width C j) (width C i))) C.count
            (λ j l. (λ t. not (sym (port j l) t) || sym (wide_is i j below l) t && sym (near_is i j below l) t) ∙ split (is_union_port C i p j) (le (width C j) (width C i)) (is_near_port C i j))
            ∙ sym (all_and (λ j. not (is_union_port C i p j) || is_near_port C i j) (λ j. not (is_union_port C i p j) || le (width C j) (width C i)) C.count)
          where
            split : (a w n : Bool) → (not a || w && n) ≡ ((not a || n) && (not a || w))
            split true true true = refl
            split true true false = refl
            split true false true = refl
            split true false false = refl
            split false w n = refl
        passes false =
            all_ext (λ j. not (is_port full i p j) || is_near boundaries i j) (λ j. not (is_union_port C i p j) || is_near_port C i j) C.count (λ j l. λ t. not (sym (port j l) t) || sym (near_is i j below l) t)
            ∙ sym (and-true (all_below C.count (λ j. not (is_union_port C i p j) || is_near_port C i j)))

      pub shape_is : shape_at boundaries full C.count i p counts marks ≡ union_shape C i p
      unfolding shape_at union_shape
      shape_is =
          (λ t. sym (no_ramp_is i below) t && ltb (sym anchors t) 2 && walk_fits full counts C.count i p && leb 3 (count_below C.count (leads_anew full i p)) && ports_pass boundaries full C.count i p (eqb (sym anchors t) 1))
          ∙ go (walk_fits full counts C.count i p) refl
        where
          -- without three exteriors, and with them: x ports are enough where there are y exteriors
          counted : (a b x y n w : Bool) → (y ≡ true → x ≡ true) → (a && b && true && y && (n && w)) ≡ (a && b && true && x && n && y && w)
          counted true true x true true w h = rw (h refl) refl
          counted true true x true false w h = rw (h refl) refl
          counted true true true false true w h = refl
          counted true true true false false w h = refl
          counted true true false false n w h = refl
          counted true false x y n w h = refl
          counted false b x y n w h = refl

          stopped : (a b y q x n z w : Bool) → (a && b && false && y && q) ≡ (a && b && false && x && n && z && w)
          stopped true true y q x n z w = refl
          stopped true false y q x n z w = refl
          stopped false b y q x n z w = refl

          go : (b : Bool) → walk_fits full counts C.count i p ≡ b → (no_ramp C i && ltb (anchored_regions C p) 2 && b && leb 3 (count_below C.count (leads_anew full i p)) && ports_pass boundaries full C.count i p (eqb (anchored_regions C p) 1)) ≡ union_shape C i p
          go true e =
              (λ t. no_ramp C i && ltb (anchored_regions C p) 2 && true && leb 3 (count_below C.count (leads_anew full i p)) && passes e (eqb (anchored_regions C p) 1) t)
              ∙ counted (no_ramp C i) (ltb (anchored_regions C p) 2) (leb 3 (count_below C.count (is_union_port C i p))) (leb 3 (count_below C.count (leads_anew full i p))) (all_below C.count (λ j. not (is_union_port C i p j) || is_near_port C i j)) (not (eqb (anchored_regions C p) 1) || is_widest C i p) (many-ports e)
              ∙ (λ t. no_ramp C i && ltb (anchored_regions C p) 2 && (sym e ∙ walk) t && leb 3 (count_below C.count (is_union_port C i p)) && all_below C.count (λ j. not (is_union_port C i p j) || is_near_port C i j) && leb 3 (sym (new-count e) t) && (not (eqb (anchored_regions C p) 1) || is_widest C i p))
          go false e =
              stopped (no_ramp C i) (ltb (anchored_regions C p) 2) (leb 3 (count_below C.count (leads_anew full i p))) (ports_pass boundaries full C.count i p (eqb (anchored_regions C p) 1)) (leb 3 (count_below C.count (is_union_port C i p))) (all_below C.count (λ j. not (is_union_port C i p j) || is_near_port C i j)) (leb 3 (count_below C.count (is_new_exterior C i p))) (not (eqb (anchored_regions C p) 1) || is_widest C i p)
              ∙ (λ t. no_ramp C i && ltb (anchored_regions C p) 2 && (sym e ∙ walk) t && leb 3 (count_below C.count (is_union_port C i p)) && all_below C.count (λ j. not (is_union_port C i p j) || is_near_port C i j) && leb 3 (count_below C.count (is_new_exterior C i p)) && (not (eqb (anchored_regions C p) 1) || is_widest C i p))
