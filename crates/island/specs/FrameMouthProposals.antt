-- Pass 1, the proposals for a ramp and a mouth. Of one side, a proposal has its regions there too; inside, it is the small context's, renamed; of two sides,
-- there is none, since the ramp's pair names no region of the mouth. Assumes a frame.
use Rattle.std.specs.Prelude.{ℕ, Bool, ◌&&◌, ◌||◌, List, [], ◌∷◌, map, length, leb, option_map, Option, None, Some}
use Rattle.std.proofs.Math.Path.{◌≡◌, refl, ap, ap₂}
use Rattle.std.proofs.Common.{sym, ◌∙◌}
use Rattle.std.proofs.Math.Bool.{true, false, not, cond}
use Rattle.std.proofs.Math.Dec.{eqb}
use Rattle.std.specs.Float.Ieee.{le, lt}
use Rattle.definitions.specs.Scan.{any, all, filter, only_if}
use Rattle.definitions.specs.Grid.{Pair, contains}
use Rattle.definitions.specs.Geometry.{center, distance}
use Rattle.definitions.specs.RegionRecord.{corners}
use Rattle.definitions.specs.Context.{Context, full_cut, full_pair, no_ramp}
use Rattle.definitions.specs.MouthShapes.{MouthShape, single, star, mouth_shape, triangle_representative}
use Rattle.definitions.specs.RampMouths.{MouthProposal, max_mouth_distance, max_approach_radius, retain, broad_mouth, nearby_representative, overlay_representative, approach_fits, single_mouth, star_mouth, shaped_mouth, triangle_mouth, triangle, triangle_or, corners_near_lem, is_local, mouth_proposal}
use Rattle.laws.specs.ListLaws.Lists.{All, done, more, all_filter, filter_none, all-ren}
use Rattle.laws.specs.OrderLaws.Ranks.{rank}
use Rattle.laws.specs.ListLaws.Options.{OnO, absent, present, on_only, on_cond, only_map, cond_map}
use Rattle.island.specs.Frame.{Frame, ren, PairOn}
use Rattle.island.specs.RegionLists.{On, contains-split, other_region_on}
use Rattle.island.specs.FrameLemmas.{full_cut_in, full_pair_in, full_pair_on}
use Rattle.island.specs.FrameShapes.{ShapeOn, mouth_shape_in, mouth_shape_on, triangle_representative_in, triangle_representative_on, triangle_representative-split}
use Rattle.island.specs.FrameApproaches.{ren_mouth, broad_mouth_in, nearby_representative_in, overlay_representative_in, shaped_mouth_in, triangle_mouth_in}

-- a proposal with its ramp and its regions on one side; and its ramp is one
pub record MouthOn (L : Context) (in_b in_r : ℕ → Bool) (b : Bool) (p : MouthProposal) : Type 0 where
  pub mouth : in_b p.mouth_index ≡ b
  pub ramp : in_b p.ramp_index ≡ b
  pub outer : All (On in_r b) p.outer
  pub inner : All (On in_r b) p.inner
  pub is_ramp : no_ramp L p.ramp_index ≡ false

-- what is asked of ramp a and mouth m before anything else, where a has no ramp or has one as c says
abbrev is_tried : Context → ℕ → ℕ → Bool → Bool
is_tried C a m c = not c && full_cut C a && no_ramp C m && (broad_mouth C m a || nearby_representative C m a || overlay_representative C m a)

-- the proposal of a triangle or else of a shape, before it is asked to be local
abbrev untested : Context → ℕ → ℕ → Option MouthProposal
untested C a m = triangle_or C (triangle C m a) m a (shaped_mouth C m a (full_pair C a) (mouth_shape (full_cut C m) (C.pairs m)))

module _ {L S : Context} {in_b in_r : ℕ → Bool} (F : Frame L S in_b in_r) where
  -- ---- where a proposal lies

  triangle_on : (m a : ℕ) (b : Bool) → in_b m ≡ b → OnO (All (On in_r b)) (triangle L m a)
  unfolding triangle
  triangle_on m a b h = on_cond (nearby_representative L m a && full_cut L m && full_cut L a) (triangle_representative_on in_r b (L.pairs a) (F.pairs_on b m h)) absent

  shape_on : (m : ℕ) (b : Bool) → in_b m ≡ b → OnO (ShapeOn in_r b) (mouth_shape (full_cut L m) (L.pairs m))
  shape_on m b h = mouth_shape_on in_r b (full_cut L m) (F.pairs_on b m h)

  module _ (m a : ℕ) (b : Bool) (hm : in_b m ≡ b) (ha : in_b a ≡ b) (is_ramp : no_ramp L a ≡ false) where
    single_mouth_on : (p : Pair) {l : List ℕ} → PairOn in_r b p → All (On in_r b) l → OnO (MouthOn L in_b in_r b) (single_mouth L m a p l)
    unfolding single_mouth
    single_mouth_on p k done = absent
    single_mouth_on p k (more {x = r} h done) =
        on_only (approach_fits L m a r (r ∷ []) true (L.anchored p.lo || L.anchored p.hi)) _
        (record { mouth = hm; ramp = ha; outer = more (other_region_on in_r b r p k) done; inner = more h done; is_ramp = is_ramp })
    single_mouth_on p k (more h (more j x)) = absent

    star_mouth_on : (o : ℕ) (inner : List ℕ) {l : List ℕ} → in_r o ≡ b → All (On in_r b) inner → All (On in_r b) l → OnO (MouthOn L in_b in_r b) (star_mouth L m a o inner l)
    unfolding star_mouth
    star_mouth_on o inner u k done = absent
    star_mouth_on o inner u k (more {x = r} h done) =
        on_only (approach_fits L m a r inner false (any L.anchored inner)) _ (record { mouth = hm; ramp = ha; outer = more u done; inner = k; is_ramp = is_ramp })
    star_mouth_on o inner u k (more h (more j x)) = absent

    shaped_mouth_on : (o : Option Pair) {s : Option MouthShape} → OnO (ShapeOn in_r b) s → OnO (MouthOn L in_b in_r b) (shaped_mouth L m a o s)
    unfolding shaped_mouth
    shaped_mouth_on None k = absent
    shaped_mouth_on (Some q) absent = absent
    shaped_mouth_on (Some q) (present {x = single p} k) = single_mouth_on p k (all_filter (λ r. contains r q) (more k.lo (more k.hi done)))
    shaped_mouth_on (Some q) (present {x = star o l} k) = star_mouth_on o l k.0 k.1 (all_filter (λ r. contains r q) k.1)

    untested_on : OnO (MouthOn L in_b in_r b) (untested L a m)
    unfolding triangle_or triangle_mouth
    untested_on = go (triangle_on m a b hm)
      where
        go : {t : Option (List ℕ)} → OnO (All (On in_r b)) t → OnO (MouthOn L in_b in_r b) (triangle_or L t m a (shaped_mouth L m a (full_pair L a) (mouth_shape (full_cut L m) (L.pairs m))))
        go absent = shaped_mouth_on (full_pair L a) (shape_on m b hm)
        go (present {x = rs} k) =
            on_only (leb (length (filter L.anchored rs)) 1) _
            (record { mouth = hm; ramp = ha; outer = all_filter L.anchored k; inner = all_filter (λ r. not (L.anchored r)) k; is_ramp = is_ramp })

  pub mouth_proposal_on : (m a : ℕ) (b : Bool) → in_b m ≡ b → in_b a ≡ b → OnO (MouthOn L in_b in_r b) (mouth_proposal L a m)
  unfolding mouth_proposal
  mouth_proposal_on m a b hm ha = go (no_ramp L a) refl
    where
      local : {o : Option MouthProposal} → OnO (MouthOn L in_b in_r b) o → OnO (MouthOn L in_b in_r b) (retain (is_local L) o)
      local absent = absent
      local (present {x = p} h) = on_only (is_local L p) p h

      go : (c : Bool) → no_ramp L a ≡ c → OnO (MouthOn L in_b in_r b) (cond (is_tried L a m c) (retain (is_local L) (untested L a m)) None)
      go true e = absent
      go false e = on_cond (is_tried L a m false) (local (untested_on m a b hm ha e)) absent

  -- ---- a ramp and a mouth inside

  corners_near_in : (p : MouthProposal) → MouthOn L in_b in_r true p → corners_near_lem L p ≡ corners_near_lem S (ren_mouth in_b in_r p)
  unfolding corners_near_lem
  corners_near_in p g =
      all-ren (ren in_r) (On in_r true) _ _
      (λ r k t.
      all
      (λ c.
      le (distance c (center (F.boundary p.ramp_index g.ramp t).endpoints)) max_approach_radius
      || p.two_port_broad_approach && le (distance c (center (F.boundary p.mouth_index g.mouth t).endpoints)) max_approach_radius)
      (corners (F.region r k t)))
      g.inner

  is_local_in : (p : MouthProposal) → MouthOn L in_b in_r true p → is_local L p ≡ is_local S (ren_mouth in_b in_r p)
  unfolding is_local
  is_local_in p g = ap (λ t. not (lt max_mouth_distance p.separation) && t) (corners_near_in p g)

  retain_in : {o : Option MouthProposal} → OnO (MouthOn L in_b in_r true) o → option_map (ren_mouth in_b in_r) (retain (is_local L) o) ≡ retain (is_local S) (option_map (ren_mouth in_b in_r) o)
  retain_in absent = refl
  retain_in (present {x = p} g) = sym (only_map (ren_mouth in_b in_r) (is_local L p) p) ∙ ap (λ t. only_if t (ren_mouth in_b in_r p)) (is_local_in p g)

  module _ (m a : ℕ) (hm : in_b m ≡ true) (ha : in_b a ≡ true) where
    triangle_in : option_map (map (ren in_r)) (triangle L m a) ≡ triangle S (rank in_b m) (rank in_b a)
    unfolding triangle
    triangle_in =
        cond_map (map (ren in_r)) (nearby_representative L m a && full_cut L m && full_cut L a) (triangle_representative (L.pairs m) (L.pairs a)) None
        ∙ ap (λ o. cond (nearby_representative L m a && full_cut L m && full_cut L a) o None) (triangle_representative_in in_r (F.pairs_on true m hm) (F.pairs_on true a ha))
        ∙ (λ t.
        cond (nearby_representative_in F m a hm ha t && full_cut_in F m hm t && full_cut_in F a ha t)
        (triangle_representative (sym (F.pairs m hm) t) (sym (F.pairs a ha) t))
        None)

    shaped_in : option_map (ren_mouth in_b in_r) (shaped_mouth L m a (full_pair L a) (mouth_shape (full_cut L m) (L.pairs m))) ≡ shaped_mouth S (rank in_b m) (rank in_b a) (full_pair S (rank in_b a)) (mouth_shape (full_cut S (rank in_b m)) (S.pairs (rank in_b m)))
    shaped_in =
        shaped_mouth_in F m a hm ha (full_pair_on F true a ha) (shape_on m true hm)
        ∙ ap₂ (shaped_mouth S (rank in_b m) (rank in_b a)) (sym (full_pair_in F a ha))
        (mouth_shape_in in_r (full_cut L m) (F.pairs_on true m hm) ∙ ap₂ mouth_shape (full_cut_in F m hm) (sym (F.pairs m hm)))

    untested_in : option_map (ren_mouth in_b in_r) (untested L a m) ≡ untested S (rank in_b a) (rank in_b m)
    unfolding triangle_or
    untested_in = go (triangle_on m a true hm) ∙ ap₂ (λ o d. triangle_or S o (rank in_b m) (rank in_b a) d) triangle_in shaped_in
      where
        d : Option MouthProposal
        d = shaped_mouth L m a (full_pair L a) (mouth_shape (full_cut L m) (L.pairs m))

        go : {o : Option (List ℕ)} → OnO (All (On in_r true)) o → option_map (ren_mouth in_b in_r) (triangle_or L o m a d) ≡ triangle_or S (option_map (map (ren in_r)) o) (rank in_b m) (rank in_b a) (option_map (ren_mouth in_b in_r) d)
        go absent = refl
        go (present k) = triangle_mouth_in F m a hm ha k

    pub mouth_proposal_in : option_map (ren_mouth in_b in_r) (mouth_proposal L a m) ≡ mouth_proposal S (rank in_b a) (rank in_b m)
    unfolding mouth_proposal
    mouth_proposal_in = go (no_ramp L a) refl
        ∙ (λ t.
        cond
        (not (eqb (F.boundary a ha t).kind 0) && full_cut_in F a ha t && eqb (F.boundary m hm t).kind 0
        && (broad_mouth_in F m a hm ha t || nearby_representative_in F m a hm ha t || overlay_representative_in F m a hm ha t))
        (retain (is_local S) (untested_in t))
        None)
      where
        go : (c : Bool) → no_ramp L a ≡ c → option_map (ren_mouth in_b in_r) (cond (is_tried L a m c) (retain (is_local L) (untested L a m)) None) ≡ cond (is_tried L a m c) (retain (is_local S) (option_map (ren_mouth in_b in_r) (untested L a m))) None
        go true e = refl
        go false e =
            cond_map (ren_mouth in_b in_r) (is_tried L a m false) (retain (is_local L) (untested L a m)) None
            ∙ ap (λ o. cond (is_tried L a m false) o None) (retain_in (untested_on m a true hm ha e))

  -- ---- a ramp and a mouth of two sides

  module _ (m a : ℕ) (b : Bool) (hm : in_b m ≡ b) (ha : in_b a ≡ not b) where
    shaped_mouth-split : {o : Option Pair} {s : Option MouthShape} → OnO (PairOn in_r (not b)) o → OnO (ShapeOn in_r b) s → shaped_mouth L m a o s ≡ None
    unfolding shaped_mouth single_mouth star_mouth
    shaped_mouth-split absent k = refl
    shaped_mouth-split (present h) absent = refl
    shaped_mouth-split (present {x = q} h) (present {x = single p} k) =
        ap (single_mouth L m a p) (filter_none (λ r. contains r q) (λ r n. contains-split in_r b r q n h) (more k.lo (more k.hi done)))
    shaped_mouth-split (present {x = q} h) (present {x = star o l} k) =
        ap (star_mouth L m a o l) (filter_none (λ r. contains r q) (λ r n. contains-split in_r b r q n h) k.1)

    pub mouth_proposal-split : mouth_proposal L a m ≡ None
    unfolding mouth_proposal triangle_or triangle
    mouth_proposal-split =
        ap (λ o. cond (is_tried L a m (no_ramp L a)) (retain (is_local L) o) None)
        (ap₂ (λ o d. triangle_or L o m a d)
        (ap (λ o. cond (nearby_representative L m a && full_cut L m && full_cut L a) o None) (triangle_representative-split in_r b (F.pairs_on b m hm) (F.pairs_on (not b) a ha))
        ∙ neither (nearby_representative L m a && full_cut L m && full_cut L a))
        (shaped_mouth-split (full_pair_on F (not b) a ha) (shape_on m b hm)))
        ∙ neither (is_tried L a m (no_ramp L a))
      where
        neither : {A : Type 0} (c : Bool) → ◌≡◌ {A = Option A} (cond c None None) None
        neither true = refl
        neither false = refl
