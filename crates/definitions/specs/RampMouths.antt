-- Pass 1, `replace_ramp_mouths` of ramp_boundaries.rs. The Rust's chain of `continue`s is one conjunction here, and its `retain` is asked of each proposal
-- as it is made (laws: MouthChain, Selection1, MouthsAsRust). Assumes nothing.
use Rattle.std.specs.Prelude.{ℕ, Bool, ◌&&◌, ◌||◌, length, leb, Float, Option, None, Some}
use Rattle.std.proofs.Math.Bool.{true, false, not, cond}
use mathlib.Core.List.{List, [], ◌∷◌, ◌++◌, map}
use Rattle.std.proofs.Math.Dec.{eqb}
use Rattle.std.specs.Float.Ieee.{binary64, le, lt, mul, div, to_bits}
use Rattle.definitions.specs.Scan.{any, all, filter, any_below_lem, collect, gather, only_if, member}
use Rattle.definitions.specs.Sort.{sort, select, list_lt}
use Rattle.definitions.specs.Grid.{Pair, contains}
use Rattle.definitions.specs.MouthShapes.{MouthShape, single, star, mouth_shape, triangle_representative}
use Rattle.definitions.specs.Geometry.{float, center, distance}
use Rattle.definitions.specs.RampGeometry.{segment_distance, is_nearby_parallel_representative, overlapping_ramp_representative, fmin, fmax}
use Rattle.definitions.specs.RegionRecord.{corners}
use Rattle.definitions.specs.Context.{Context, full_cut, full_pair, other_region, is_incident, incident_count, no_ramp, width, endpoints_key}

unfoldable pub max_mouth_distance : Float
unfolding float
max_mouth_distance = float 224

unfoldable pub max_approach_radius : Float
unfolding float
max_approach_radius = float 512

-- 1.5
unfoldable pub max_overlay_width_ratio : Float
unfolding div float
max_overlay_width_ratio = div binary64 (float 3) (float 2)

-- ---- proposals

-- MouthProposal; `outer` has at most one region, and the Rust's `union` is `outer` and `inner` together
pub record MouthProposal : Type 0 where
  pub mouth_index : ℕ
  pub ramp_index : ℕ
  pub outer : List ℕ
  pub inner : List ℕ
  pub is_triangle : Bool
  pub two_port_broad_approach : Bool
  pub separation : Float

abbrev pub union_of : MouthProposal → List ℕ
union_of p = p.outer ++ p.inner

-- the two lists have a number in common
unfoldable pub meet : List ℕ → List ℕ → Bool
unfolding any member
meet l m = any (λ r. member r m) l

abbrev pub retain : (MouthProposal → Bool) → Option MouthProposal → Option MouthProposal
retain f None = None
retain f (Some p) = only_if (f p) p

module _ (C : Context) where
  -- the incidents of r are the boundaries i and j
  unfoldable pub only_incidents : ℕ → ℕ → ℕ → Bool
  unfolding incident_count is_incident
  only_incidents r i j = eqb (incident_count C r) 2 && is_incident C i r && is_incident C j r

  -- the other end of the ramp of boundary a is an incident of r
  unfoldable pub other_end_incident : ℕ → ℕ → Bool
  unfolding any_below_lem is_incident
  other_end_incident a r =
      any_below_lem C.count
      (λ j. not (no_ramp C j) && eqb (C.boundary j).ramp_id (C.boundary a).ramp_id && not (eqb (C.boundary j).kind (C.boundary a).kind) && is_incident C j r)

  unfoldable pub broad_mouth : ℕ → ℕ → Bool
  unfolding le mul float width
  broad_mouth m a = le (mul binary64 (float 2) (width C a)) (width C m)

  unfoldable pub nearby_representative : ℕ → ℕ → Bool
  unfolding is_nearby_parallel_representative
  nearby_representative m a = is_nearby_parallel_representative (C.boundary m).endpoints (C.boundary a).endpoints

  unfoldable pub overlay_representative : ℕ → ℕ → Bool
  unfolding le fmax width mul max_overlay_width_ratio fmin overlapping_ramp_representative
  overlay_representative m a =
      le (fmax (width C m) (width C a)) (mul binary64 max_overlay_width_ratio (fmin (width C m) (width C a)))
      && overlapping_ramp_representative (C.boundary m).endpoints (C.boundary a).endpoints

  unfoldable pub overlay_only : ℕ → ℕ → Bool
  unfolding overlay_representative nearby_representative broad_mouth
  overlay_only m a = overlay_representative m a && not (nearby_representative m a) && not (broad_mouth m a)

  unfoldable pub separation_of : ℕ → ℕ → Float
  unfolding segment_distance
  separation_of m a = segment_distance (C.boundary m).endpoints (C.boundary a).endpoints

  -- ---- a mouth that is no triangle, its approach r known: the one inner region that the ramp's own pair names

  -- Mouth m at the approach r of ramp a. `anchoredAny` says whether one of the mouth's regions that the Rust asks is anchored.
  unfoldable pub approach_fits : ℕ → ℕ → ℕ → List ℕ → Bool → Bool → Bool
  unfolding any overlay_only only_incidents other_end_incident all incident_count is_incident
  approach_fits m a r inner is_single anchoredAny =
      -- no inner region is anchored. (An anchored outer one is allowed,)
      not (any C.anchored inner)
      -- unless the mouth is an overlay only: then it is of one pair, no region is anchored, and the approach has just this mouth and this ramp
      && not (overlay_only m a && (not is_single || anchoredAny || not (only_incidents r m a)))
      -- the other end of the ramp is not about the approach
      && not (other_end_incident a r)
      -- with several inner regions, the approach has just this mouth and this ramp, and each other one just this mouth
      && (leb (length inner) 1 || only_incidents r m a && all (λ s. eqb s r || eqb (incident_count C s) 1 && is_incident C m s) inner)

  unfoldable pub two_port_broad : ℕ → ℕ → ℕ → List ℕ → Bool → Bool
  unfolding broad_mouth overlay_only only_incidents
  two_port_broad m a r inner is_single = cond (leb (length inner) 1) ((broad_mouth m a || overlay_only m a) && is_single && only_incidents r m a) (broad_mouth m a)

  -- a mouth of one pair p, those of its regions given that the ramp borders: exactly one is wanted
  unfoldable pub single_mouth : ℕ → ℕ → Pair → List ℕ → Option MouthProposal
  unfolding approach_fits two_port_broad separation_of
  single_mouth m a p [] = None
  single_mouth m a p (r ∷ []) =
      only_if (approach_fits m a r (r ∷ []) true (C.anchored p.lo || C.anchored p.hi))
      (record {
        mouth_index = m;
        ramp_index = a;
        outer = other_region r p ∷ [];
        inner = r ∷ [];
        is_triangle = false;
        two_port_broad_approach = two_port_broad m a r (r ∷ []) true;
        separation = separation_of m a;
      })
  single_mouth m a p (r ∷ s ∷ l) = None

  -- a star about `outer`, those of its inner regions given that the ramp borders: exactly one is wanted
  unfoldable pub star_mouth : ℕ → ℕ → ℕ → List ℕ → List ℕ → Option MouthProposal
  unfolding approach_fits any two_port_broad separation_of
  star_mouth m a outer inner [] = None
  star_mouth m a outer inner (r ∷ []) =
      only_if (approach_fits m a r inner false (any C.anchored inner))
      (record {
        mouth_index = m;
        ramp_index = a;
        outer = outer ∷ [];
        inner = inner;
        is_triangle = false;
        two_port_broad_approach = two_port_broad m a r inner false;
        separation = separation_of m a;
      })
  star_mouth m a outer inner (r ∷ s ∷ l) = None

  -- from the ramp's full pair and the mouth's shape
  unfoldable pub shaped_mouth : ℕ → ℕ → Option Pair → Option MouthShape → Option MouthProposal
  unfolding single_mouth filter star_mouth
  shaped_mouth m a None s = None
  shaped_mouth m a (Some q) None = None
  shaped_mouth m a (Some q) (Some (single p)) = single_mouth m a p (filter (λ r. contains r q) (p.lo ∷ p.hi ∷ []))
  shaped_mouth m a (Some q) (Some (star outer inner)) = star_mouth m a outer inner (filter (λ r. contains r q) inner)

  -- ---- a triangle: at most one of its regions is anchored, and that one is the outer

  unfoldable pub triangle_mouth : ℕ → ℕ → List ℕ → Option MouthProposal
  unfolding filter separation_of
  triangle_mouth m a rs =
      only_if (leb (length (filter C.anchored rs)) 1)
      (record {
        mouth_index = m;
        ramp_index = a;
        outer = filter C.anchored rs;
        inner = filter (λ r. not (C.anchored r)) rs;
        is_triangle = true;
        two_port_broad_approach = false;
        separation = separation_of m a;
      })

  unfoldable pub triangle : ℕ → ℕ → Option (List ℕ)
  unfolding nearby_representative full_cut triangle_representative
  triangle m a = cond (nearby_representative m a && full_cut C m && full_cut C a) (triangle_representative (C.pairs m) (C.pairs a)) None

  -- a triangle that has two anchored regions is not tried as a star
  unfoldable pub triangle_or : Option (List ℕ) → ℕ → ℕ → Option MouthProposal → Option MouthProposal
  unfolding triangle_mouth
  triangle_or None m a d = d
  triangle_or (Some rs) m a d = triangle_mouth m a rs

  -- ---- the proposals

  -- each corner of each inner region is within the radius of the ramp's centre or, for a broad two-port approach, of the mouth's
  unfoldable pub corners_near_lem : MouthProposal → Bool
  unfolding all corners le distance center max_approach_radius
  corners_near_lem p =
      all
      (λ r.
      all
      (λ c.
      le (distance c (center (C.boundary p.ramp_index).endpoints)) max_approach_radius
      || p.two_port_broad_approach && le (distance c (center (C.boundary p.mouth_index).endpoints)) max_approach_radius)
      (corners (C.region r)))
      p.inner

  unfoldable pub is_local : MouthProposal → Bool
  unfolding lt max_mouth_distance corners_near_lem
  is_local p = not (lt max_mouth_distance p.separation) && corners_near_lem p

  unfoldable pub mouth_proposal : ℕ → ℕ → Option MouthProposal
  unfolding full_cut broad_mouth nearby_representative overlay_representative is_local triangle_or triangle shaped_mouth full_pair mouth_shape
  mouth_proposal a m =
      cond (not (no_ramp C a) && full_cut C a && no_ramp C m && (broad_mouth m a || nearby_representative m a || overlay_representative m a))
      (retain is_local (triangle_or (triangle m a) m a (shaped_mouth m a (full_pair C a) (mouth_shape (full_cut C m) (C.pairs m)))))
      None

  -- by ramp, then by mouth
  unfoldable pub proposals : List MouthProposal
  unfolding gather collect mouth_proposal
  proposals = gather C.count (λ a. collect C.count (mouth_proposal a))

  -- ---- the choice

  -- by separation (never negative, never a NaN, so that it compares as its bits do; laws: KeysAsBits), then by the mouth's endpoints and the ramp's
  unfoldable pub key : MouthProposal → List ℕ
  unfolding to_bits endpoints_key
  key p = to_bits binary64 p.separation ∷ endpoints_key (C.boundary p.mouth_index).endpoints ++ endpoints_key (C.boundary p.ramp_index).endpoints

  -- q, taken, keeps the later p from being taken. A triangle meets no region of any taken proposal, and nothing meets a region of a taken triangle.
  unfoldable pub conflict : MouthProposal → MouthProposal → Bool
  unfolding meet
  conflict q p =
      eqb q.mouth_index p.mouth_index
      || eqb (C.boundary q.ramp_index).ramp_id (C.boundary p.ramp_index).ramp_id && eqb (C.boundary q.ramp_index).kind (C.boundary p.ramp_index).kind
      || meet p.outer q.inner || meet p.inner q.inner || meet p.inner q.outer
      || (p.is_triangle || q.is_triangle) && meet (union_of p) (union_of q)

  unfoldable pub ranks_before : MouthProposal → MouthProposal → Bool
  unfolding list_lt key
  ranks_before p q = list_lt (key p) (key q)

  unfoldable pub taken : List MouthProposal
  unfolding select conflict sort ranks_before proposals
  taken = select conflict [] (sort ranks_before proposals)

  -- the boundaries that the pass removes
  unfoldable pub removed : List ℕ
  unfolding taken
  removed = map (λ p. p.mouth_index) taken
