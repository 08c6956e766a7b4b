-- Pass 1, a mouth with its approach: what the large context finds for a mouth and a ramp inside is what the small one finds for their ranks, renamed.
-- One lemma for each definition, in their order, up to the mouth of a given shape and the mouth of a given triangle. Assumes a frame.
use Prim.Native.Nat.{ℕ}
use Rattle.std.specs.Prelude.{◌≡◌, ◌&&◌, ◌||◌, leb, option_map, Option}
use Rattle.std.proofs.Math.Path.{refl, sym, ap}
use Rattle.std.proofs.Common.{◌∙◌}
use Rattle.std.proofs.Math.Bool.{Bool, true, false, not, cond, and-false}
use mathlib.Core.List.{List, [], ◌∷◌, map}
use Rattle.std.proofs.Math.ListN.{length}
use Rattle.std.proofs.lemmas.List.{length-map}
use Rattle.std.proofs.Math.Dec.{eqb}
use Rattle.std.specs.Float.Ieee.{binary64, le, mul}
use Rattle.definitions.specs.Scan.{any, filter, only_if}
use Rattle.definitions.specs.Grid.{Pair, contains}
use Rattle.definitions.specs.Geometry.{float}
use Rattle.definitions.specs.RampGeometry.{segment_distance, is_nearby_parallel_representative, overlapping_ramp_representative, fmin, fmax}
use Rattle.definitions.specs.Context.{Context, other_region, is_incident, incident_count, no_ramp}
use Rattle.definitions.specs.MouthShapes.{MouthShape, single, star}
use Rattle.definitions.specs.RampMouths.{MouthProposal, max_overlay_width_ratio, only_incidents, other_end_incident, broad_mouth, nearby_representative, overlay_representative, overlay_only, separation_of, approach_fits, two_port_broad, single_mouth, star_mouth, shaped_mouth, triangle_mouth}
use Rattle.laws.specs.ListLaws.Lists.{All, done, more, all_filter, filter-ren, all-ren}
use Rattle.laws.specs.OrderLaws.Ranks.{rank}
use Rattle.laws.specs.ListLaws.Options.{OnO, absent, present, only_map}
use Rattle.island.specs.Frame.{Frame, ren, ren_p, ren-eqb, PairOn}
use Rattle.island.specs.RegionLists.{On, contains_in, other_region_in}
use Rattle.island.specs.FrameLemmas.{is_incident_in, is_incident-split, incident_count_in, width_in, any-anchored_in, any_in}
use Rattle.island.specs.FrameShapes.{ren_shape, ShapeOn}

abbrev pub ren_mouth : (ℕ → Bool) → (ℕ → Bool) → MouthProposal → MouthProposal
ren_mouth in_b in_r p =
    record {
      mouth_index = rank in_b p.mouth_index;
      ramp_index = rank in_b p.ramp_index;
      outer = map (ren in_r) p.outer;
      inner = map (ren in_r) p.inner;
      is_triangle = p.is_triangle;
      two_port_broad_approach = p.two_port_broad_approach;
      separation = p.separation;
    }

module _ {L S : Context} {in_b in_r : ℕ → Bool} (F : Frame L S in_b in_r) where
  only_incidents_in : (r i j : ℕ) → in_r r ≡ true → in_b i ≡ true → in_b j ≡ true → only_incidents L r i j ≡ only_incidents S (ren in_r r) (rank in_b i) (rank in_b j)
  unfolding only_incidents
  only_incidents_in r i j h b c = λ t. eqb (incident_count_in F r h t) 2 && is_incident_in F i r b h t && is_incident_in F j r c h t

  other_end_incident_in : (a r : ℕ) → in_b a ≡ true → in_r r ≡ true → other_end_incident L a r ≡ other_end_incident S (rank in_b a) (ren in_r r)
  unfolding other_end_incident
  other_end_incident_in a r c h =
      any_in F (λ j. end j && is_incident L j r)
      (λ j.
      not (no_ramp S j) && eqb (S.boundary j).ramp_id (S.boundary (rank in_b a)).ramp_id && not (eqb (S.boundary j).kind (S.boundary (rank in_b a)).kind)
      && is_incident S j (ren in_r r))
      (λ j d t.
      not (eqb (F.boundary j d t).kind 0) && eqb (F.boundary j d t).ramp_id (F.boundary a c t).ramp_id
      && not (eqb (F.boundary j d t).kind (F.boundary a c t).kind)
      && is_incident_in F j r d h t)
      (λ j d. ap (λ t. end j && t) (is_incident-split F true j r h d) ∙ and-false (end j))
    where
      end : ℕ → Bool
      end j = not (no_ramp L j) && eqb (L.boundary j).ramp_id (L.boundary a).ramp_id && not (eqb (L.boundary j).kind (L.boundary a).kind)

  module _ (m a : ℕ) (b : in_b m ≡ true) (c : in_b a ≡ true) where
    pub broad_mouth_in : broad_mouth L m a ≡ broad_mouth S (rank in_b m) (rank in_b a)
    unfolding broad_mouth
    broad_mouth_in = λ t. le (mul binary64 (float 2) (width_in F a c t)) (width_in F m b t)

    pub nearby_representative_in : nearby_representative L m a ≡ nearby_representative S (rank in_b m) (rank in_b a)
    unfolding nearby_representative
    nearby_representative_in = λ t. is_nearby_parallel_representative (F.boundary m b t).endpoints (F.boundary a c t).endpoints

    pub overlay_representative_in : overlay_representative L m a ≡ overlay_representative S (rank in_b m) (rank in_b a)
    unfolding overlay_representative
    overlay_representative_in =
        λ t.
        le (fmax (width_in F m b t) (width_in F a c t)) (mul binary64 max_overlay_width_ratio (fmin (width_in F m b t) (width_in F a c t)))
        && overlapping_ramp_representative (F.boundary m b t).endpoints (F.boundary a c t).endpoints

    overlay_only_in : overlay_only L m a ≡ overlay_only S (rank in_b m) (rank in_b a)
    unfolding overlay_only
    overlay_only_in = λ t. overlay_representative_in t && not (nearby_representative_in t) && not (broad_mouth_in t)

    separation_of_in : separation_of L m a ≡ separation_of S (rank in_b m) (rank in_b a)
    unfolding separation_of
    separation_of_in = λ t. segment_distance (F.boundary m b t).endpoints (F.boundary a c t).endpoints

    -- ---- the approach

    approach_fits_in : (r : ℕ) (l : List ℕ) (u v : Bool) → in_r r ≡ true → All (On in_r true) l → approach_fits L m a r l u v ≡ approach_fits S (rank in_b m) (rank in_b a) (ren in_r r) (map (ren in_r) l) u v
    unfolding approach_fits
    approach_fits_in r l u v h x =
        λ t.
        not (any-anchored_in F x t) && not (overlay_only_in t && (not u || v || not (only_incidents_in r m a h b c t))) && not (other_end_incident_in a r c h t)
        && (leb (sym (length-map l (ren in_r)) t) 1
        || only_incidents_in r m a h b c t
        && all-ren (ren in_r) (On in_r true) (λ s. eqb s r || eqb (incident_count L s) 1 && is_incident L m s)
        (λ s. eqb s (ren in_r r) || eqb (incident_count S s) 1 && is_incident S (rank in_b m) s)
        (λ s k t. ren-eqb in_r s r k h t || eqb (incident_count_in F s k t) 1 && is_incident_in F m s b k t)
        x
        t)

    two_port_broad_in : (r : ℕ) (l : List ℕ) (u : Bool) → in_r r ≡ true → two_port_broad L m a r l u ≡ two_port_broad S (rank in_b m) (rank in_b a) (ren in_r r) (map (ren in_r) l) u
    unfolding two_port_broad
    two_port_broad_in r l u h =
        λ t. cond (leb (sym (length-map l (ren in_r)) t) 1) ((broad_mouth_in t || overlay_only_in t) && u && only_incidents_in r m a h b c t) (broad_mouth_in t)

    -- ---- a mouth of a given shape

    single_mouth_in : (p : Pair) {l : List ℕ} → PairOn in_r true p → All (On in_r true) l → option_map (ren_mouth in_b in_r) (single_mouth L m a p l) ≡ single_mouth S (rank in_b m) (rank in_b a) (ren_p in_r p) (map (ren in_r) l)
    unfolding single_mouth
    single_mouth_in p k done = refl
    single_mouth_in p k (more {x = r} h done) =
        sym
        (only_map (ren_mouth in_b in_r) (approach_fits L m a r (r ∷ []) true (L.anchored p.lo || L.anchored p.hi))
        (record {
          mouth_index = m;
          ramp_index = a;
          outer = other_region r p ∷ [];
          inner = r ∷ [];
          is_triangle = false;
          two_port_broad_approach = two_port_broad L m a r (r ∷ []) true;
          separation = separation_of L m a;
        }))
        ∙ (λ t.
        only_if (approach_fits_in r (r ∷ []) true (F.anchored p.lo k.lo t || F.anchored p.hi k.hi t) h (more h done) t)
        (record {
          mouth_index = rank in_b m;
          ramp_index = rank in_b a;
          outer = other_region_in in_r r p h k t ∷ [];
          inner = ren in_r r ∷ [];
          is_triangle = false;
          two_port_broad_approach = two_port_broad_in r (r ∷ []) true h t;
          separation = separation_of_in t;
        }))
    single_mouth_in p k (more h (more j x)) = refl

    star_mouth_in : (o : ℕ) (inner : List ℕ) {l : List ℕ} → All (On in_r true) inner → All (On in_r true) l → option_map (ren_mouth in_b in_r) (star_mouth L m a o inner l) ≡ star_mouth S (rank in_b m) (rank in_b a) (ren in_r o) (map (ren in_r) inner) (map (ren in_r) l)
    unfolding star_mouth
    star_mouth_in o inner k done = refl
    star_mouth_in o inner k (more {x = r} h done) =
        sym
        (only_map (ren_mouth in_b in_r) (approach_fits L m a r inner false (any L.anchored inner))
        (record {
          mouth_index = m;
          ramp_index = a;
          outer = o ∷ [];
          inner = inner;
          is_triangle = false;
          two_port_broad_approach = two_port_broad L m a r inner false;
          separation = separation_of L m a;
        }))
        ∙ (λ t.
        only_if (approach_fits_in r inner false (any-anchored_in F k t) h k t)
        (record {
          mouth_index = rank in_b m;
          ramp_index = rank in_b a;
          outer = ren in_r o ∷ [];
          inner = map (ren in_r) inner;
          is_triangle = false;
          two_port_broad_approach = two_port_broad_in r inner false h t;
          separation = separation_of_in t;
        }))
    star_mouth_in o inner k (more h (more j x)) = refl

    -- the regions of a list inside that a ramp's pair names
    named_in : (q : Pair) {l : List ℕ} → PairOn in_r true q → All (On in_r true) l → map (ren in_r) (filter (λ r. contains r q) l) ≡ filter (λ r. contains r (ren_p in_r q)) (map (ren in_r) l)
    named_in q h a = filter-ren (ren in_r) (On in_r true) (λ r. contains r q) (λ r. contains r (ren_p in_r q)) (λ r k. contains_in in_r r q k h) a

    pub shaped_mouth_in : {o : Option Pair} {s : Option MouthShape} → OnO (PairOn in_r true) o → OnO (ShapeOn in_r true) s → option_map (ren_mouth in_b in_r) (shaped_mouth L m a o s) ≡ shaped_mouth S (rank in_b m) (rank in_b a) (option_map (ren_p in_r) o) (option_map (ren_shape in_r) s)
    unfolding shaped_mouth
    shaped_mouth_in absent k = refl
    shaped_mouth_in (present h) absent = refl
    shaped_mouth_in (present {x = q} h) (present {x = single p} k) =
        single_mouth_in p k (all_filter (λ r. contains r q) (more k.lo (more k.hi done)))
        ∙ ap (single_mouth S (rank in_b m) (rank in_b a) (ren_p in_r p)) (named_in q h (more k.lo (more k.hi done)))
    shaped_mouth_in (present {x = q} h) (present {x = star o l} k) =
        star_mouth_in o l k.1 (all_filter (λ r. contains r q) k.1)
        ∙ ap (star_mouth S (rank in_b m) (rank in_b a) (ren in_r o) (map (ren in_r) l)) (named_in q h k.1)

    -- ---- a mouth of a given triangle

    pub triangle_mouth_in : {rs : List ℕ} → All (On in_r true) rs → option_map (ren_mouth in_b in_r) (triangle_mouth L m a rs) ≡ triangle_mouth S (rank in_b m) (rank in_b a) (map (ren in_r) rs)
    unfolding triangle_mouth
    triangle_mouth_in {rs} k =
        sym
        (only_map (ren_mouth in_b in_r) (leb (length (filter L.anchored rs)) 1)
        (record {
          mouth_index = m;
          ramp_index = a;
          outer = filter L.anchored rs;
          inner = filter (λ r. not (L.anchored r)) rs;
          is_triangle = true;
          two_port_broad_approach = false;
          separation = separation_of L m a;
        }))
        ∙ (λ t.
        only_if (leb ((sym (length-map (filter L.anchored rs) (ren in_r)) ∙ ap length held) t) 1)
        (record {
          mouth_index = rank in_b m;
          ramp_index = rank in_b a;
          outer = held t;
          inner = free t;
          is_triangle = true;
          two_port_broad_approach = false;
          separation = separation_of_in t;
        }))
      where
        held : map (ren in_r) (filter L.anchored rs) ≡ filter S.anchored (map (ren in_r) rs)
        held = filter-ren (ren in_r) (On in_r true) L.anchored S.anchored F.anchored k

        free : map (ren in_r) (filter (λ r. not (L.anchored r)) rs) ≡ filter (λ r. not (S.anchored r)) (map (ren in_r) rs)
        free = filter-ren (ren in_r) (On in_r true) (λ r. not (L.anchored r)) (λ r. not (S.anchored r)) (λ r h. ap not (F.anchored r h)) k
