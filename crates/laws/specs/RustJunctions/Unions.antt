-- The unions of junctions.rs as the Rust proposes them, boundary by boundary: its tests one after another, each with its `continue`, and the walk over the ports that
-- fills the set of exteriors, keeps the widest and stops at the first port that is not near. They are those that pass `union_shape`. The argument: what the walk leaves
-- is read only where it has gone through, and there each part is the definitions' scan (Ports, Exteriors, WidestPort). Assumes a sound context.
use Rattle.std.specs.Prelude.{ℕ, ◌<◌, ◌≡◌, Bool, not, ◌&&◌, ◌||◌, length, eqb, ltb, Float, Option, None, Some}
use Rattle.std.proofs.Common.{arith, sym, ap, ◌∙◌, ltb-true, ltb-false, lt-ltb, le-ltb, leb-true, leb-false}
use Rattle.std.proofs.Math.Path.{refl}
use Rattle.std.proofs.Math.Bool.{true, false, cond}
use Rattle.std.proofs.lemmas.Bool.{false≢true}
use mathlib.Core.List.{List, [], ◌∷◌}
use Rattle.std.proofs.Math.Dec.{leb}
use Rattle.std.specs.Float.Ieee.{le}
use Rattle.definitions.specs.Scan.{all, filter, all_below, count_below, only_if}
use Rattle.definitions.specs.Grid.{Pair}
use Rattle.definitions.specs.Geometry.{float}
use Rattle.definitions.specs.RampGeometry.{fmax}
use Rattle.definitions.specs.Context.{Context, full_pair, no_ramp, width}
use Rattle.definitions.specs.Junctions.{is_union_port, is_new_exterior, anchored_regions, is_near_port, ports_fit, is_widest, union_shape}
use Rattle.laws.specs.ListLaws.Lists.{filter_two}
use Rattle.laws.specs.RustContext.SoundContext.{Sound}
use Rattle.laws.specs.SetLaws.Sets.{numbers_below, length-below, all_below_lem}
use Rattle.laws.specs.RustContext.IncidentMap.{incidents}
use Rattle.laws.specs.RustJunctions.Ports.{Walked, walk_union, walk-valid, walk-ports}
use Rattle.laws.specs.RustJunctions.Exteriors.{insert_exterior, exteriors_from, exteriors-length}
use Rattle.laws.specs.RustJunctions.WidestPort.{widest_from, is_as_wide, widest}
use Rattle.laws.specs.RustJunctions.JunctionProposals.{UnionStruct}

-- ---- as the Rust writes it

pub record Surveyed : Type 0 where
  pub valid : Bool
  pub exteriors : List ℕ
  pub widest : Float

module _ (C : Context) (full : ℕ → Option Pair) where
  --     for port in &ports {
  --         ..                                          -- `insert_exterior`
  --         widest_port = widest_port.max(boundaries[*port].width_pixels);
  --         if !within_distance(candidate_center, center(&boundaries[*port]), MAX_PORT_DISTANCE_PIXELS) { valid = false; break; }
  --     }
  unfoldable pub survey_ports : ℕ → Pair → List ℕ → Float → List ℕ → Surveyed
  survey_ports i p exteriors widest [] = record { valid = true; exteriors = exteriors; widest = widest }
  survey_ports i p exteriors widest (j ∷ js) =
      cond (not (is_near_port C i j)) (record { valid = false; exteriors = insert_exterior p exteriors (full j); widest = fmax widest (width C j) })
      (survey_ports i p (insert_exterior p exteriors (full j)) (fmax widest (width C j)) js)

module _ (C : Context) where
  --     let anchored_regions = pair.into_iter().filter(|region| ctx.anchored.contains(region)).count();
  unfoldable pub anchored_count : Pair → ℕ
  anchored_count p = length (filter C.anchored (p.lo ∷ p.hi ∷ []))

  --     if valid && exteriors.len() >= 3 && (anchored_regions != 1 || boundaries[index].width_pixels >= widest_port) {
  --         union_proposals.push(UnionProposal { index, pair, anchored_regions, ports });
  --     }
  unfoldable pub union_surveyed : ℕ → Pair → List ℕ → Surveyed → Option UnionStruct
  union_surveyed i p ports s =
      only_if (s.valid && leb 3 (length s.exteriors) && (not (eqb (anchored_count p) 1) || le s.widest (width C i)))
      (record { index = i; pair = p; anchored_regions = anchored_count p; ports = ports })

module _ (C : Context) (full : ℕ → Option Pair) where
  --     if !valid || ports.len() < 3 { continue; }
  unfoldable pub union_walked : ℕ → Pair → Walked → Option UnionStruct
  union_walked i p w = cond (not w.valid || ltb (length w.ports) 3) None (union_surveyed C i p w.ports (survey_ports C full i p [] (float 0) w.ports))

  --     let Some(pair) = full_pair(entry) else { continue; };
  --     if boundaries[index].ramp.is_some() { continue; }
  --     if anchored_regions > 1 { continue; }
  unfoldable pub union_of_pair : ℕ → Option Pair → Option UnionStruct
  union_of_pair i None = None
  union_of_pair i (Some p) = cond (not (no_ramp C i)) None (cond (ltb 1 (anchored_count C p)) None (union_walked i p (walk_union full (incidents C) i p)))

-- ---- and that it is the same

less_three : (n : ℕ) → ltb n 3 ≡ not (leb 3 n)
less_three n = go (leb 3 n) refl
  where
    go : (b : Bool) → leb 3 n ≡ b → ltb n 3 ≡ not b
    go true e = le-ltb n 3 (leb-true 3 n e)
    go false e = lt-ltb n 3 (leb-false 3 n e)

over_one : (n : ℕ) → ltb 1 n ≡ not (ltb n 2)
over_one n = go (ltb n 2) refl
  where
    go : (b : Bool) → ltb n 2 ≡ b → ltb 1 n ≡ not b
    go true e = le-ltb 1 n (omega (arith, ltb-true n 2 e))
    go false e = lt-ltb 1 n (ltb-false n 2 e)

module _ (C : Context) where
  anchored_is : (p : Pair) → anchored_count C p ≡ anchored_regions C p
  unfolding anchored_count
  anchored_is p = filter_two C.anchored p.lo p.hi

  module _ (i : ℕ) (p : Pair) where
    survey_valid : (exteriors : List ℕ) (w : Float) (ports : List ℕ) → (survey_ports C (full_pair C) i p exteriors w ports).valid ≡ all (is_near_port C i) ports
    unfolding survey_ports all
    survey_valid exteriors w [] = refl
    survey_valid exteriors w (j ∷ js) = go (is_near_port C i j) (survey_valid (insert_exterior p exteriors (full_pair C j)) (fmax w (width C j)) js)
      where
        go : (b : Bool) → (survey_ports C (full_pair C) i p (insert_exterior p exteriors (full_pair C j)) (fmax w (width C j)) js).valid ≡ all (is_near_port C i) js → (cond (not b) (record { valid = false; exteriors = insert_exterior p exteriors (full_pair C j); widest = fmax w (width C j) }) (survey_ports C (full_pair C) i p (insert_exterior p exteriors (full_pair C j)) (fmax w (width C j)) js)).valid ≡ (b && all (is_near_port C i) js)
        go true h = h
        go false h = refl

    -- a walk that has gone through
    survey_through : (exteriors : List ℕ) (w : Float) (ports : List ℕ) → all (is_near_port C i) ports ≡ true → survey_ports C (full_pair C) i p exteriors w ports ≡ record { valid = true; exteriors = exteriors_from (full_pair C) p exteriors ports; widest = widest_from C w ports }
    unfolding survey_ports all exteriors_from widest_from
    survey_through exteriors w [] h = refl
    survey_through exteriors w (j ∷ js) h = go (is_near_port C i j) h (survey_through (insert_exterior p exteriors (full_pair C j)) (fmax w (width C j)) js)
      where
        go : (b : Bool) → (b && all (is_near_port C i) js) ≡ true → (all (is_near_port C i) js ≡ true → survey_ports C (full_pair C) i p (insert_exterior p exteriors (full_pair C j)) (fmax w (width C j)) js ≡ record { valid = true; exteriors = exteriors_from (full_pair C) p (insert_exterior p exteriors (full_pair C j)) js; widest = widest_from C (fmax w (width C j)) js }) → cond (not b) (record { valid = false; exteriors = insert_exterior p exteriors (full_pair C j); widest = fmax w (width C j) }) (survey_ports C (full_pair C) i p (insert_exterior p exteriors (full_pair C j)) (fmax w (width C j)) js) ≡ record { valid = true; exteriors = exteriors_from (full_pair C) p (insert_exterior p exteriors (full_pair C j)) js; widest = widest_from C (fmax w (width C j)) js }
        go true h k = k h
        go false h k = absurd (false≢true h)

    -- the ports, and the proposal that they make
    abbrev ports : List ℕ
    ports = numbers_below C.count (is_union_port C i p)

    abbrev pub proposed : UnionStruct
    proposed = record { index = i; pair = p; anchored_regions = anchored_regions C p; ports = ports }

    abbrev near : Bool
    near = all_below C.count (λ j. not (is_union_port C i p j) || is_near_port C i j)

    near-all : all (is_near_port C i) ports ≡ near
    near-all = all_below_lem (is_union_port C i p) (is_near_port C i) C.count

    abbrev many_exteriors : Bool
    many_exteriors = leb 3 (count_below C.count (is_new_exterior C i p))

    abbrev wide_enough_lem : Bool
    wide_enough_lem = not (eqb (anchored_regions C p) 1) || is_widest C i p

    module _ (sound : Sound C) (below : i < C.count) where
      surveyed_is : union_surveyed C i p ports (survey_ports C (full_pair C) i p [] (float 0) ports) ≡ only_if (near && many_exteriors && wide_enough_lem) proposed
      unfolding union_surveyed is_as_wide
      surveyed_is = go (all (is_near_port C i) ports) refl
        where
          go : (b : Bool) → all (is_near_port C i) ports ≡ b → union_surveyed C i p ports (survey_ports C (full_pair C) i p [] (float 0) ports) ≡ only_if (near && many_exteriors && wide_enough_lem) proposed
          go true e =
              (λ t. union_surveyed C i p ports (survey_through [] (float 0) ports e t))
              ∙ (λ t. only_if ((sym e ∙ near-all) t && leb 3 (exteriors-length C p i t) && (not (eqb (anchored_is p t) 1) || widest C sound i p below t))
              (record { index = i; pair = p; anchored_regions = anchored_is p t; ports = ports }))
          go false e =
              (λ t. only_if ((survey_valid [] (float 0) ports ∙ e) t && leb 3 (length (survey_ports C (full_pair C) i p [] (float 0) ports).exteriors) && (not (eqb (anchored_count C p) 1) || le (survey_ports C (full_pair C) i p [] (float 0) ports).widest (width C i)))
              (record { index = i; pair = p; anchored_regions = anchored_count C p; ports = ports }))
              ∙ (λ t. only_if ((sym e ∙ near-all) t && many_exteriors && wide_enough_lem) proposed)

      walked_is : union_walked C (full_pair C) i p (walk_union (full_pair C) (incidents C) i p) ≡ only_if (ports_fit C i p && leb 3 (count_below C.count (is_union_port C i p)) && near && many_exteriors && wide_enough_lem) proposed
      unfolding union_walked
      walked_is = go (walk_union (full_pair C) (incidents C) i p).valid refl
        where
          few : (b : Bool) → cond (not b) None (union_surveyed C i p ports (survey_ports C (full_pair C) i p [] (float 0) ports)) ≡ only_if (b && near && many_exteriors && wide_enough_lem) proposed
          few true = surveyed_is
          few false = refl

          go : (b : Bool) → (walk_union (full_pair C) (incidents C) i p).valid ≡ b → union_walked C (full_pair C) i p (walk_union (full_pair C) (incidents C) i p) ≡ only_if (ports_fit C i p && leb 3 (count_below C.count (is_union_port C i p)) && near && many_exteriors && wide_enough_lem) proposed
          go true e =
              (λ t. cond (not (e t) || ltb (length (walk-ports C i p e t)) 3) None (union_surveyed C i p (walk-ports C i p e t) (survey_ports C (full_pair C) i p [] (float 0) (walk-ports C i p e t))))
              ∙ (λ t. cond ((less_three (length ports) ∙ ap (λ n. not (leb 3 n)) (length-below (is_union_port C i p) C.count)) t) None (union_surveyed C i p ports (survey_ports C (full_pair C) i p [] (float 0) ports)))
              ∙ few (leb 3 (count_below C.count (is_union_port C i p)))
              ∙ (λ t. only_if ((sym e ∙ walk-valid C i p) t && leb 3 (count_below C.count (is_union_port C i p)) && near && many_exteriors && wide_enough_lem) proposed)
          go false e =
              (λ t. cond (not (e t) || ltb (length (walk_union (full_pair C) (incidents C) i p).ports) 3) None (union_surveyed C i p (walk_union (full_pair C) (incidents C) i p).ports (survey_ports C (full_pair C) i p [] (float 0) (walk_union (full_pair C) (incidents C) i p).ports)))
              ∙ (λ t. only_if ((sym e ∙ walk-valid C i p) t && leb 3 (count_below C.count (is_union_port C i p)) && near && many_exteriors && wide_enough_lem) proposed)

      -- a boundary that is a full pair
      pub union_is : union_of_pair C (full_pair C) i (Some p) ≡ only_if (union_shape C i p) proposed
      unfolding union_of_pair union_shape
      union_is =
          (λ t. cond (not (no_ramp C i)) None (cond ((ap (ltb 1) (anchored_is p) ∙ over_one (anchored_regions C p)) t) None (union_walked C (full_pair C) i p (walk_union (full_pair C) (incidents C) i p)))) ∙ go (no_ramp C i) (ltb (anchored_regions C p) 2)
        where
          go : (a b : Bool) → cond (not a) None (cond (not b) None (union_walked C (full_pair C) i p (walk_union (full_pair C) (incidents C) i p))) ≡ only_if (a && b && ports_fit C i p && leb 3 (count_below C.count (is_union_port C i p)) && near && many_exteriors && wide_enough_lem) proposed
          go true true = walked_is
          go true false = refl
          go false b = refl
