-- What the loop of `replace_ramp_mouths` (ramp_boundaries.rs) finds of a mouth and a ramp, as it is written there: its chain of tests gives the five parts of a
-- proposal, or none where the loop continues. Definitions only. Assumes nothing.
use Rattle.std.specs.Prelude.{ℕ, Bool, true, false, not, ◌&&◌, ◌||◌, cond, List, [], ◌∷◌, length, get_or, eqb, ltb, Option, None, Some}
use Rattle.std.specs.Float.{binary64}
use Rattle.std.specs.Float.Ieee.{le, mul}
use Rattle.definitions.specs.Scan.{any, filter, any_below_lem, member}
use Rattle.definitions.specs.Grid.{Pair, Boundary, contains}
use Rattle.definitions.specs.Geometry.{float}
use Rattle.definitions.specs.RampGeometry.{is_nearby_parallel_representative, overlapping_ramp_representative, fmin, fmax}
use Rattle.definitions.specs.Context.{Context, no_ramp, width}
use Rattle.definitions.specs.MouthShapes.{MouthShape, single, star}
use Rattle.definitions.specs.RampMouths.{max_overlay_width_ratio}
use Rattle.laws.specs.RustContext.FullCut.{full_cut_rust, full_pair_rust}
use Rattle.laws.specs.RustContext.Incidents.{incidents_rust, is_none_or, is_some_and}

-- `(outer, inner, union, triangle, two_port_broad_approach)`
pub record FoundMouth : Type 0 where
  pub outer : Option ℕ
  pub inner : List ℕ
  pub union : List ℕ
  pub triangle : Bool
  pub two_port_broad_approach : Bool

-- `iter().find(..)`
unfoldable pub find : (ℕ → Bool) → List ℕ → Option ℕ
find f [] = None
find f (x ∷ l) = cond (f x) (Some x) (find f l)

abbrev pub is_none : {A : Type 0} → Option A → Bool
is_none None = true
is_none (Some a) = false

--     let mouth_inner = match &mouth_shape {
--         MouthShape::Single(pair) => pair.as_slice(),
--         MouthShape::Star { inner, .. } => inner.as_slice(),
--     };
abbrev pub mouth_inner : MouthShape → List ℕ
mouth_inner (single pair) = pair.lo ∷ pair.hi ∷ []
mouth_inner (star outer inner) = inner

--     let single_mouth = matches!(mouth_shape, MouthShape::Single(_));
abbrev pub is_single : MouthShape → Bool
is_single (single pair) = true
is_single (star outer inner) = false

--     let (outer, inner) = match mouth_shape {
--         MouthShape::Single(pair) => (
--             pair.into_iter().find(|region| *region != approach),
--             vec![approach],
--         ),
--         MouthShape::Star { outer, inner } => (Some(outer), inner),
--     };
abbrev pub outer_of : ℕ → MouthShape → Option ℕ
outer_of approach (single pair) = find (λ region. not (eqb region approach)) (pair.lo ∷ pair.hi ∷ [])
outer_of approach (star outer inner) = Some outer

abbrev pub inner_of : ℕ → MouthShape → List ℕ
inner_of approach (single pair) = approach ∷ []
inner_of approach (star outer inner) = inner

module _ (C : Context) where
  -- `full_cut(&metadata[i])`
  abbrev pub full_cut_at : ℕ → Bool
  full_cut_at i = full_cut_rust (C.removed_edges i) (C.separated_edges i) (C.pairs i)

  -- `full_pair(&metadata[i])`
  abbrev pub full_pair_at : ℕ → Option Pair
  full_pair_at i = full_pair_rust (C.removed_edges i) (C.separated_edges i) (C.pairs i)

  -- `boundaries[i].ramp`: the numbers of a boundary that has a ramp, kind 0 having none
  abbrev pub ramp_of : ℕ → Option Boundary
  ramp_of i = cond (no_ramp C i) None (Some (C.boundary i))

  -- ---- a triangle

  --     if triangle
  --         .iter()
  --         .filter(|region| ctx.anchored.contains(region))
  --         .count()
  --         > 1
  --     {
  --         continue;
  --     }
  --     let inner = triangle
  --         .iter()
  --         .copied()
  --         .filter(|region| !ctx.anchored.contains(region))
  --         .collect();
  --     let outer = triangle
  --         .iter()
  --         .copied()
  --         .find(|region| ctx.anchored.contains(region));
  --     (outer, inner, triangle, true, false)
  unfoldable pub found_triangle : List ℕ → Option FoundMouth
  found_triangle triangle =
      cond (ltb 1 (length (filter C.anchored triangle))) None
      (Some
      (record {
        outer = find C.anchored triangle;
        inner = filter (λ region. not (C.anchored region)) triangle;
        union = triangle;
        triangle = true;
        two_port_broad_approach = false;
      }))

  -- ---- a mouth that is no triangle

  --     boundaries.iter().enumerate().any(|(index, other)| {
  --         other.ramp.is_some_and(|other_ramp| {
  --             other_ramp.id == ramp_provenance.id
  --                 && other_ramp.end != ramp_provenance.end
  --                 && metadata[index]
  --                     .region_pairs
  --                     .iter()
  --                     .any(|pair| pair.contains(&approach))
  --         })
  --     })
  unfoldable pub other_end : ℕ → ℕ → Bool
  other_end a approach =
      any_below_lem C.count
      (λ index.
      is_some_and (ramp_of index)
      (λ other.
      eqb other.ramp_id (C.boundary a).ramp_id && not (eqb other.kind (C.boundary a).kind) && any (λ pair. contains approach pair) (C.pairs index)))

  module _ (a m : ℕ) where
    --     let nearby_representative =
    --         is_nearby_parallel_representative(mouth.endpoints, ramp.endpoints);
    abbrev pub nearby : Bool
    nearby = is_nearby_parallel_representative (C.boundary m).endpoints (C.boundary a).endpoints

    --     let overlay_representative = mouth.width_pixels.max(ramp.width_pixels)
    --         <= MAX_OVERLAY_WIDTH_RATIO * mouth.width_pixels.min(ramp.width_pixels)
    --         && overlapping_ramp_representative(mouth.endpoints, ramp.endpoints).is_some();
    abbrev pub overlay : Bool
    overlay =
        le (fmax (width C m) (width C a)) (mul binary64 max_overlay_width_ratio (fmin (width C m) (width C a)))
        && overlapping_ramp_representative (C.boundary m).endpoints (C.boundary a).endpoints

    --     let broad_mouth = mouth.width_pixels >= 2.0 * ramp.width_pixels;
    abbrev pub broad : Bool
    broad = le (mul binary64 (float 2) (width C a)) (width C m)

    --     incidents.len() != 2
    --         || !incidents.contains(&mouth_index)
    --         || !incidents.contains(&ramp_index)
    abbrev pub not_both : List ℕ → Bool
    not_both incidents = not (eqb (length incidents) 2) || not (member m incidents) || not (member a incidents)

    --     incidents.len() == 2
    --         && incidents.contains(&mouth_index)
    --         && incidents.contains(&ramp_index)
    abbrev pub both : List ℕ → Bool
    both incidents = eqb (length incidents) 2 && member m incidents && member a incidents

    -- From `let union = ..` on; `isOne` is `single_mouth`, `hasAnchored` is `mouth_has_anchored_region`.
    --     if inner.iter().any(|region| ctx.anchored.contains(region)) {
    --         continue;
    --     }
    --     let approach_incidents = ctx.incidents.get(&approach);
    --     let overlay_only = overlay_representative && !nearby_representative && !broad_mouth;
    --     if overlay_only
    --         && (!single_mouth
    --             || mouth_has_anchored_region
    --             || approach_incidents.is_none_or(|incidents| { .. }))
    --     {
    --         continue;
    --     }
    --     let mut two_port_broad_approach = (broad_mouth || overlay_only)
    --         && single_mouth
    --         && approach_incidents.is_some_and(|incidents| { .. });
    --     if boundaries.iter().enumerate().any(..) {
    --         continue;
    --     }
    --     if inner.len() > 1 {
    --         if approach_incidents.is_none_or(|incidents| { .. }) || inner.iter().any(|region| {
    --             *region != approach
    --                 && ctx.incidents.get(region).is_none_or(|incidents| {
    --                     incidents.len() != 1 || !incidents.contains(&mouth_index)
    --                 })
    --         }) {
    --             continue;
    --         }
    --         two_port_broad_approach = broad_mouth;
    --     }
    --     (Some(outer), inner, union, false, two_port_broad_approach)
    unfoldable pub found_approach : Bool → Bool → ℕ → ℕ → List ℕ → Option FoundMouth
    found_approach isOne hasAnchored approach outer inner =
        let incidents = incidents_rust C approach in
        let overlay_only = overlay && not nearby && not broad in
        let found : Bool → Option FoundMouth =
        λ two. Some (record { outer = Some outer; inner = inner; union = outer ∷ inner; triangle = false; two_port_broad_approach = two }) in
        cond (any C.anchored inner) None
        (cond (overlay_only && (not isOne || hasAnchored || is_none_or incidents not_both)) None
        (cond (other_end a approach) None
        (cond (ltb 1 (length inner))
        (cond
        (is_none_or incidents not_both
        || any (λ region. not (eqb region approach) && is_none_or (incidents_rust C region) (λ s. not (eqb (length s) 1) || not (member m s))) inner)
        None (found broad))
        (found ((broad || overlay_only) && isOne && is_some_and incidents both)))))

    --     let Some(outer) = outer else {
    --         continue;
    --     };
    unfoldable pub found_outer : MouthShape → Bool → ℕ → Option ℕ → Option FoundMouth
    found_outer shape hasAnchored approach None = None
    found_outer shape hasAnchored approach (Some outer) = found_approach (is_single shape) hasAnchored approach outer (inner_of approach shape)

    --     let shared: Vec<_> = mouth_inner
    --         .iter()
    --         .copied()
    --         .filter(|region| ramp_regions.contains(region))
    --         .collect();
    --     if shared.len() != 1 {
    --         continue;
    --     }
    --     let approach = shared[0];
    unfoldable pub found_shape : Pair → MouthShape → Option FoundMouth
    found_shape rampRegions shape =
        let shared = filter (λ region. contains region rampRegions) (mouth_inner shape) in
        let approach = get_or shared 0 0 in
        cond (not (eqb (length shared) 1)) None (found_outer shape (any C.anchored (mouth_inner shape)) approach (outer_of approach shape))

    --     if let Some(triangle) = triangle {
    --         ..
    --     } else {
    --         let Some(ramp_regions) = ramp_regions else {
    --             continue;
    --         };
    --         let mouth_shape = mouth_shape.expect("checked above");
    -- (That `expect` never fails: `found_mouth` is asked only where there is a triangle or a shape.)
    unfoldable pub found_mouth : Option (List ℕ) → Option Pair → Option MouthShape → Option FoundMouth
    found_mouth (Some triangle) rampRegions shape = found_triangle triangle
    found_mouth None None shape = None
    found_mouth None (Some rampRegions) None = None
    found_mouth None (Some rampRegions) (Some shape) = found_shape rampRegions shape
