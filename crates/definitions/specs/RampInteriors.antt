-- Pass 2, `collapse_ramp_interiors` of ramp_boundaries.rs. The Rust's depth-first search for a component is the merging of regions by ordinary full cuts
-- here, and its leaves are found by the same walk (laws: Components, Leaves, Selection2). Assumes nothing.
use Rattle.std.specs.Prelude.{ℕ, suc, ◌+◌, Bool, false, ◌&&◌, ◌||◌, length, get_or, ltb, Option, None}
use Rattle.std.proofs.Math.Bool.{true, not, cond}
use mathlib.Core.List.{List, [], ◌∷◌, ◌++◌}
use Rattle.std.proofs.Math.Dec.{eqb, leb}
use Rattle.std.specs.Float.Ieee.{le}
use Rattle.definitions.specs.Scan.{any, all, all_below, collect, gather, only_if, run, concat_map, member, add_all, bit}
use Rattle.definitions.specs.Sort.{sort, select, list_lt}
use Rattle.definitions.specs.Grid.{Pair}
use Rattle.definitions.specs.Partition.{merge_all}
use Rattle.definitions.specs.Geometry.{center, distance}
use Rattle.definitions.specs.RegionRecord.{has_ramp, has_bit, corners}
use Rattle.definitions.specs.Context.{Context, full_cut, is_incident, incident_count, no_ramp, endpoints_key}
use Rattle.definitions.specs.MouthShapes.{regions_of}
use Rattle.definitions.specs.RampMouths.{meet, max_approach_radius}

abbrev pub max_interior_edges : ℕ
max_interior_edges = 8

-- InteriorProposal: the regions of the component and its leaves, the boundaries that would go, and the two ports, the smaller number first
pub record InteriorProposal : Type 0 where
  pub regions : List ℕ
  pub edges : List ℕ
  pub first_port : ℕ
  pub second_port : ℕ

-- the regions found so far, and whether the ports are valid so far (`expanded_regions`, `valid_ports`)
pub record Expansion : Type 0 where
  pub regions : List ℕ
  pub valid : Bool

-- how many of the two regions of p stand in rs
unfoldable pub inside_count : List ℕ → Pair → ℕ
unfolding member
inside_count rs p = bit (member p.lo rs) + bit (member p.hi rs)

-- the other region of a pair with exactly one region in rs
unfoldable pub pair_exterior : List ℕ → Pair → List ℕ
unfolding member
pair_exterior rs p = cond (member p.lo rs) (cond (member p.hi rs) [] (p.hi ∷ [])) (cond (member p.hi rs) (p.lo ∷ []) [])

unfoldable pub exteriors : List ℕ → List Pair → List ℕ
unfolding concat_map pair_exterior
exteriors rs l = concat_map (pair_exterior rs) l

abbrev pub invalid : Expansion → Expansion
invalid s = record { regions = s.regions; valid = false }

module _ (C : Context) where
  -- ---- components

  -- an ordinary full cut: a boundary with no ramp
  unfoldable pub is_ordinary : ℕ → Bool
  unfolding full_cut
  is_ordinary i = no_ramp C i && full_cut C i

  -- the pairs of regions that ordinary full cuts join
  unfoldable pub links : List Pair
  unfolding gather is_ordinary
  links = gather C.count (λ i. cond (is_ordinary i) (C.pairs i) [])

  -- for each label the least label of its component: each region alone, then every link merges
  unfoldable pub components : List ℕ
  unfolding merge_all run links
  components = merge_all (run 0 (suc C.regions)) links

  module _ (cs : List ℕ) where
    -- the component of region r, as its least label
    abbrev pub component_of : ℕ → ℕ
    component_of r = get_or cs r 0

    -- i is an edge of the component named r: an ordinary full cut with a pair in it
    unfoldable pub is_edge : ℕ → ℕ → Bool
    unfolding is_ordinary any
    is_edge r i = is_ordinary i && any (λ p. eqb (component_of p.lo) r) (C.pairs i)

    unfoldable pub edges_of : ℕ → List ℕ
    unfolding collect is_edge
    edges_of r = collect C.count (λ i. only_if (is_edge r i) i)

    -- the regions of the component, from its edges
    unfoldable pub component_regions : ℕ → List ℕ
    unfolding add_all gather is_edge
    component_regions r = add_all [] (gather C.count (λ i. cond (is_edge r i) (regions_of (C.pairs i)) []))

    -- r names a component of one edge to eight, whose edges have no pair elsewhere, and no region of it is anchored
    unfoldable pub is_candidate : ℕ → Bool
    unfolding edges_of is_edge all_below all any component_regions
    is_candidate r =
        eqb (component_of r) r && leb 1 (length (edges_of r)) && leb (length (edges_of r)) max_interior_edges
        && all_below C.count (λ i. not (is_edge r i) || all (λ p. eqb (component_of p.lo) r) (C.pairs i))
        && not (any C.anchored (component_regions r))

    -- a boundary about the component that is no edge of it
    unfoldable pub is_port : ℕ → ℕ → Bool
    unfolding is_edge any
    is_port r i = not (is_edge r i) && any (λ p. eqb (component_of p.lo) r || eqb (component_of p.hi) r) (C.pairs i)

    unfoldable pub component_ports : ℕ → List ℕ
    unfolding collect is_port
    component_ports r = collect C.count (λ i. only_if (is_port r i) i)

  -- ---- a port, and the leaves beyond it

  -- a leaf is not anchored, and has no incident but this port
  unfoldable pub add_leaf : ℕ → Expansion → ℕ → Expansion
  unfolding incident_count is_incident
  add_leaf i s leaf =
      let bad = C.anchored leaf || not (eqb (incident_count C leaf) 1 && is_incident C i leaf) in
      record { regions = cond bad s.regions (s.regions ++ (leaf ∷ [])); valid = s.valid && not bad }

  -- a pair with no region inside names one exterior region of the port and one leaf
  unfoldable pub expand_pair : ℕ → List ℕ → Expansion → Pair → Expansion
  unfolding inside_count add_leaf member
  expand_pair i es s p =
      cond (ltb 0 (inside_count s.regions p)) s
      (cond (eqb (inside_count es p) 1) (add_leaf i s (cond (member p.lo es) p.hi p.lo)) (invalid s))

  unfoldable pub expand_pairs : ℕ → List ℕ → Expansion → List Pair → Expansion
  unfolding expand_pair
  expand_pairs i es s [] = s
  expand_pairs i es s (p ∷ l) = expand_pairs i es (expand_pair i es s p) l

  -- A port and its leaves, after which it is still valid where: no pair of the port has both regions inside before its leaves are added (`before`); no leaf is
  -- refused (`expand_pairs`, in t); and each pair has exactly one region inside then. So the port parts inside from outside along its whole length.
  unfoldable pub expand_port : Expansion → ℕ → Expansion
  unfolding all inside_count expand_pairs exteriors
  expand_port s i =
      let ps = C.pairs i in
      let before = all (λ p. leb (inside_count s.regions p) 1) ps in
      let t = expand_pairs i (exteriors s.regions ps) s ps in
      record { regions = t.regions; valid = t.valid && before && all (λ p. eqb (inside_count t.regions p) 1) ps }

  -- ---- proposals

  -- both are full cuts and the two ends of one ramp
  unfoldable pub ports_fit : ℕ → ℕ → Bool
  unfolding full_cut
  ports_fit a b =
      not (no_ramp C a) && not (no_ramp C b) && full_cut C a && full_cut C b && eqb (C.boundary a).ramp_id (C.boundary b).ramp_id
      && not (eqb (C.boundary a).kind (C.boundary b).kind)

  -- one of the two elevations of the ramp of boundary a
  unfoldable pub is_allowed_elevation : ℕ → ℕ → Bool
  is_allowed_elevation a e = eqb e (C.boundary a).lower || eqb e (C.boundary a).upper

  -- the elevations of region r are the ramp's, and each corner is within the radius of one of the ports' centres
  unfoldable pub region_fits : ℕ → ℕ → ℕ → Bool
  unfolding all_below is_allowed_elevation all corners le distance center max_approach_radius
  region_fits a b r =
      let s = C.region r in
      all_below 8 (λ e. not (has_bit s.elevations e) || is_allowed_elevation a e)
      && all
      (λ c.
      le (distance c (center (C.boundary a).endpoints)) max_approach_radius || le (distance c (center (C.boundary b).endpoints)) max_approach_radius)
      (corners s)

  -- from the component's regions, edges and ports: exactly two ports
  unfoldable pub interior_from : List ℕ → List ℕ → List ℕ → Option InteriorProposal
  unfolding expand_port ports_fit any all region_fits
  interior_from rs es [] = None
  interior_from rs es (a ∷ []) = None
  interior_from rs es (a ∷ b ∷ []) =
      let s = expand_port (expand_port (record { regions = rs; valid = true }) a) b in
      only_if (ports_fit a b && s.valid && any (λ q. has_ramp (C.region q)) s.regions && all (region_fits a b) s.regions)
      (record { regions = s.regions; edges = es; first_port = a; second_port = b })
  interior_from rs es (a ∷ b ∷ c ∷ l) = None

  unfoldable pub interior_proposal : List ℕ → ℕ → Option InteriorProposal
  unfolding is_candidate interior_from component_regions edges_of component_ports
  interior_proposal cs r = cond (is_candidate cs r) (interior_from (component_regions cs r) (edges_of cs r) (component_ports cs r)) None

  -- by the least label of the component
  unfoldable pub proposals : List InteriorProposal
  unfolding collect interior_proposal components
  proposals =
      let cs = components in
      collect C.regions (λ k. interior_proposal cs (suc k))

  -- ---- the choice

  unfoldable pub key : InteriorProposal → List ℕ
  unfolding endpoints_key
  key p = (C.boundary p.first_port).ramp_id ∷ endpoints_key (C.boundary p.first_port).endpoints

  unfoldable pub ranks_before : InteriorProposal → InteriorProposal → Bool
  unfolding list_lt key
  ranks_before p q = list_lt (key p) (key q)

  -- q, taken, keeps the later p from being taken
  unfoldable pub conflict : InteriorProposal → InteriorProposal → Bool
  unfolding meet
  conflict q p = meet p.edges q.edges || meet p.regions q.regions

  unfoldable pub taken : List InteriorProposal
  unfolding select conflict sort ranks_before proposals
  taken = select conflict [] (sort ranks_before proposals)

  -- the boundaries that the pass removes
  unfoldable pub removed : List ℕ
  unfolding taken concat_map
  removed = concat_map (λ p. p.edges) taken
