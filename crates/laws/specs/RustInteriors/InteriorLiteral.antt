-- `collapse_ramp_interiors` (ramp_boundaries.rs) from the ports of a component on: the tests of the two ramps, the proposal, and the `retain` after the loop, as
-- they are written there. Definitions only. Assumes nothing.
use Rattle.std.specs.Prelude.{ℕ, Bool, true, false, not, ◌&&◌, ◌||◌, cond, List, [], ◌∷◌, eqb, Option, None, Some}
use Rattle.std.specs.Float.Ieee.{le}
use Rattle.std.specs.Float.Ieee.Scale.{finite}
use Rattle.definitions.specs.Scan.{any, all}
use Rattle.definitions.specs.Grid.{Boundary}
use Rattle.definitions.specs.Geometry.{Point, center, distance}
use Rattle.definitions.specs.RegionRecord.{has_ramp, corners}
use Rattle.definitions.specs.Context.{Context}
use Rattle.definitions.specs.RampMouths.{max_approach_radius}
use Rattle.laws.specs.SetLaws.Sets.{set_extend}
use Rattle.laws.specs.RustContext.Incidents.{is_some_and}
use Rattle.laws.specs.RustMouths.MouthLiteral.{full_cut_at, ramp_of}
use Rattle.laws.specs.RustJunctions.Bridges.{stats_of}
use Rattle.laws.specs.RustContext.AllowedElevations.{none_else}
use Rattle.laws.specs.RustInteriors.LeavesLiteral.{walk_port}
use Rattle.laws.specs.RustInteriors.Selection2.{InteriorRust}

-- `RampSide::Lower` and `RampSide::Upper`
abbrev pub lower_side : ℕ
lower_side = 1

abbrev pub upper_side : ℕ
upper_side = 2

-- equality of two sets, as lists
unfoldable pub same_set : List ℕ → List ℕ → Bool
same_set [] [] = true
same_set [] (y ∷ m) = false
same_set (x ∷ l) [] = false
same_set (x ∷ l) (y ∷ m) = eqb x y && same_set l m

--     let ends = BTreeSet::from([first_ramp.end, second_ramp.end]);
--     ..
--     ends != BTreeSet::from([RampSide::Lower, RampSide::Upper])
unfoldable pub other_ends : ℕ → ℕ → Bool
other_ends first second = not (same_set (set_extend [] (first ∷ second ∷ [])) (set_extend [] (lower_side ∷ upper_side ∷ [])))

module _ (C : Context) where
  --     let mut expanded_regions = regions;
  --     let mut valid_ports = true;
  --     for index in port_indexes { .. }
  --     if valid_ports {
  --         proposals.push(InteriorProposal { .. });
  --     }
  unfoldable pub push_interior : List ℕ → List ℕ → ℕ → ℕ → Boundary → Option InteriorRust
  push_interior regions edges first second first_ramp =
      let s = walk_port C (walk_port C (record { regions = regions; valid = true }) first) second in
      cond s.valid (Some (record { regions = s.regions; edges = edges; first_port = first; second_port = second; ramp_id = first_ramp.ramp_id })) None

  --     let Some(first_ramp) = boundaries[port_indexes[0]].ramp else {
  --         continue;
  --     };
  --     let Some(second_ramp) = boundaries[port_indexes[1]].ramp else {
  --         continue;
  --     };
  --     ..
  --     if !full_cut(&metadata[port_indexes[0]])
  --         || !full_cut(&metadata[port_indexes[1]])
  --         || first_ramp.id != second_ramp.id
  --         || ends != BTreeSet::from([RampSide::Lower, RampSide::Upper])
  --     {
  --         continue;
  --     }
  unfoldable pub from_ramps : List ℕ → List ℕ → ℕ → ℕ → Option Boundary → Option Boundary → Option InteriorRust
  from_ramps regions edges first second None second_ramp = None
  from_ramps regions edges first second (Some first_ramp) None = None
  from_ramps regions edges first second (Some first_ramp) (Some second_ramp) =
      cond
      (not (full_cut_at C first) || not (full_cut_at C second) || not (eqb first_ramp.ramp_id second_ramp.ramp_id) || other_ends first_ramp.kind second_ramp.kind)
      None (push_interior regions edges first second first_ramp)

  --     let [first_port, second_port] = port_indexes.as_slice() else {
  --         continue;
  --     };
  unfoldable pub from_ports : List ℕ → List ℕ → List ℕ → Option InteriorRust
  from_ports regions edges [] = None
  from_ports regions edges (first ∷ []) = None
  from_ports regions edges (first ∷ second ∷ []) = from_ramps regions edges first second (ramp_of C first) (ramp_of C second)
  from_ports regions edges (first ∷ second ∷ third ∷ l) = None

  -- ---- what is retained

  --     ctx.stats.get(region).is_some_and(|stat| {
  --         stat.min_x.is_finite()
  --             && stat.elevations & !allowed_elevations == 0
  --             && stat.corners().iter().all(|corner| {
  --                 centers
  --                     .iter()
  --                     .any(|center| distance(*corner, *center) <= MAX_APPROACH_RADIUS)
  --             })
  --     })
  unfoldable pub region_retained : List Point → Boundary → ℕ → Bool
  region_retained centers ramp region =
      is_some_and (stats_of C region)
      (λ stat.
      finite stat.min_x_lem && none_else stat.elevations ramp.lower ramp.upper
      && all (λ corner. any (λ middle. le (distance corner middle) max_approach_radius) centers) (corners stat))

  --     let ports = proposal.ports.map(|index| &boundaries[index]);
  --     let centers = ports.map(center);
  --     let ramp = ports[0].ramp.expect("validated ramp port");
  --     ..
  --     proposal
  --         .regions
  --         .iter()
  --         .any(|region| ctx.stats.get(region).is_some_and(|stat| stat.has_ramp))
  --         && proposal.regions.iter().all(|region| { .. })
  unfoldable pub is_retained : InteriorRust → Bool
  is_retained p =
      let centers = center (C.boundary p.first_port).endpoints ∷ center (C.boundary p.second_port).endpoints ∷ [] in
      any (λ region. is_some_and (stats_of C region) (λ stat. has_ramp stat)) p.regions && all (region_retained centers (C.boundary p.first_port)) p.regions
