-- The double loop of `replace_ramp_mouths` (ramp_boundaries.rs) that pushes the proposals, and the `retain` after it, as they are written there. The body of the
-- loop gives the proposal that it pushes, or none where it continues. Definitions only. Assumes nothing.
use Rattle.std.specs.Prelude.{ℕ, Bool, not, ◌&&◌, ◌||◌, cond, List, [], ◌∷◌, Float, Option, None, Some}
use Rattle.std.specs.Float.Ieee.{le, lt}
use Rattle.std.specs.Float.Ieee.Scale.{finite}
use Rattle.definitions.specs.Scan.{any, all, filter, concat_map, collect, gather, to_list}
use Rattle.definitions.specs.Geometry.{Point, center, distance}
use Rattle.definitions.specs.RampGeometry.{segment_distance}
use Rattle.definitions.specs.RegionRecord.{corners}
use Rattle.definitions.specs.Context.{Context}
use Rattle.definitions.specs.RampMouths.{max_mouth_distance, max_approach_radius}
use Rattle.laws.specs.RustMouths.MouthLiteral.{FoundMouth, is_none, full_cut_at, full_pair_at, ramp_of, nearby, overlay, broad, found_mouth}
use Rattle.laws.specs.RustContext.Incidents.{is_some_and}
use Rattle.laws.specs.RustJunctions.Bridges.{stats_of}
use Rattle.laws.specs.RustMouths.Stars.{star_rust}
use Rattle.laws.specs.RustMouths.Triangles.{triangle_rust}

-- `MouthProposal` of the Rust
pub record MouthRust : Type 0 where
  pub mouth_index : ℕ
  pub ramp_index : ℕ
  pub outer : Option ℕ
  pub inner : List ℕ
  pub union : List ℕ
  pub triangle : Bool
  pub separation : Float
  pub ramp_center : Point
  pub mouth_center : Point
  pub two_port_broad_approach : Bool

--     let centers = if proposal.two_port_broad_approach {
--         [Some(proposal.ramp_center), Some(proposal.mouth_center)]
--     } else {
--         [Some(proposal.ramp_center), None]
--     };
abbrev pub centers_of : MouthRust → List (Option Point)
centers_of p = cond p.two_port_broad_approach (Some p.ramp_center ∷ Some p.mouth_center ∷ []) (Some p.ramp_center ∷ None ∷ [])

module _ (C : Context) where
  -- ---- the body of the loop

  module _ (a m : ℕ) where
    --     let separation = segment_distance(mouth.endpoints, ramp.endpoints);
    --     if separation > MAX_MOUTH_DISTANCE {
    --         continue;
    --     }
    --     proposals.push(MouthProposal { .. });
    unfoldable pub push_mouth : Option FoundMouth → Option MouthRust
    push_mouth None = None
    push_mouth (Some found) =
        let separation = segment_distance (C.boundary m).endpoints (C.boundary a).endpoints in
        cond (lt max_mouth_distance separation) None
        (Some
        (record {
          mouth_index = m;
          ramp_index = a;
          outer = found.outer;
          inner = found.inner;
          union = found.union;
          triangle = found.triangle;
          separation = separation;
          ramp_center = center (C.boundary a).endpoints;
          mouth_center = center (C.boundary m).endpoints;
          two_port_broad_approach = found.two_port_broad_approach;
        }))

    --     let mouth_shape = star(&metadata[mouth_index]);
    --     let triangle = nearby_representative
    --         .then(|| triangle_representative(&metadata[mouth_index], &metadata[ramp_index]))
    --         .flatten();
    --     if mouth.ramp.is_some()
    --         || (mouth_shape.is_none() && triangle.is_none())
    --         || (!broad_mouth && !nearby_representative && !overlay_representative)
    --     {
    --         continue;
    --     }
    unfoldable pub mouth_body : Option MouthRust
    mouth_body =
        let shape = star_rust (full_cut_at C m) (C.pairs m) in
        let triangle = cond (nearby C a m) (triangle_rust (full_cut_at C m) (full_cut_at C a) (C.pairs m) (C.pairs a)) None in
        cond (not (is_none (ramp_of C m)) || (is_none shape && is_none triangle) || (not (broad C a m) && not (nearby C a m) && not (overlay C a m))) None
        (push_mouth (found_mouth C a m triangle (full_pair_at C a) shape))

  --     for (ramp_index, ramp) in boundaries.iter().enumerate() {
  --         let Some(ramp_provenance) = ramp.ramp else {
  --             continue;
  --         };
  --         if !full_cut(&metadata[ramp_index]) {
  --             continue;
  --         }
  --         let ramp_regions = full_pair(&metadata[ramp_index]);
  --         for (mouth_index, mouth) in boundaries.iter().enumerate() {
  unfoldable pub ramp_body : ℕ → List MouthRust
  ramp_body a = cond (is_none (ramp_of C a)) [] (cond (not (full_cut_at C a)) [] (collect C.count (mouth_body a)))

  unfoldable pub pushed_rust : List MouthRust
  pushed_rust = gather C.count ramp_body

  -- ---- what is retained

  --     proposal.inner.iter().all(|region| {
  --         let Some(stat) = ctx.stats.get(region) else {
  --             return false;
  --         };
  --         ..
  --         stat.min_x.is_finite()
  --             && stat.corners().iter().all(|corner| {
  --                 centers.iter().flatten().any(|candidate_center| {
  --                     distance(*corner, *candidate_center) <= MAX_APPROACH_RADIUS
  --                 })
  --             })
  --     })
  unfoldable pub is_retained : MouthRust → Bool
  is_retained p =
      all
      (λ region.
      is_some_and (stats_of C region)
      (λ stat. finite stat.min_x_lem && all (λ corner. any (λ middle. le (distance corner middle) max_approach_radius) (concat_map to_list (centers_of p))) (corners stat)))
      p.inner

  -- the proposals, before they are sorted
  unfoldable pub proposals_rust : List MouthRust
  proposals_rust = filter is_retained pushed_rust
