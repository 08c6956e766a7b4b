-- Pass 3, `remove_junction_boundaries` of junctions.rs: unions of two regions, and bridges of a pocket. Where the Rust keeps sets of ports, exteriors and
-- reserved regions, this has their tests (laws: Ports, WidestPort, Exteriors, BridgeGroups, Selection3). Assumes nothing.
use Rattle.std.specs.Prelude.{ℕ, zero, suc, ◌+◌, ◌-◌, ◌^◌, Bool, true, ◌&&◌, ◌||◌, Float, Option, None, Some}
use Rattle.std.proofs.Math.Bool.{not, cond}
use mathlib.Core.List.{List, [], ◌∷◌, ◌++◌, map}
use Rattle.std.proofs.Math.Dec.{eqb, ltb, leb}
use Rattle.std.specs.Float.Ieee.{binary64, le, mul}
use Rattle.definitions.specs.Scan.{all, any_below_lem, all_below, count_below, collect, only_if, bit}
use Rattle.definitions.specs.Sort.{sort, select, list_lt}
use Rattle.definitions.specs.Grid.{Segment, Boundary, Pair, contains}
use Rattle.definitions.specs.Geometry.{Point, float, point, center, distance, point_segment_distance}
use Rattle.definitions.specs.RegionRecord.{Region, has_ramp, corners, same_dominance, strictly_flat}
use Rattle.definitions.specs.Context.{Context, full_pair, holds, other_region, is_incident, no_ramp, width, endpoints_key}

unfoldable pub max_port_distance_pixels : Float
unfolding float
max_port_distance_pixels = float 384

unfoldable pub max_union_radius_pixels : Float
unfolding float
max_union_radius_pixels = float 512

-- ---- of region records

-- `within_distance`
unfoldable pub within_distance : Point → Point → Float → Bool
unfolding le distance
within_distance p q limit = le (distance p q) limit

-- `within_radius`
unfoldable pub within_radius : Region → Point → Bool
unfolding all corners within_distance max_union_radius_pixels
within_radius s middle = ltb 0 s.cells && all (λ c. within_distance c middle max_union_radius_pixels) (corners s)

-- `within_span_radius`
unfoldable pub within_span_radius : Region → Segment → Bool
unfolding all corners le point_segment_distance point max_union_radius_pixels
within_span_radius s g = ltb 0 s.cells && all (λ c. le (point_segment_distance c (point g.a) (point g.b)) max_union_radius_pixels) (corners s)

-- ---- proposals

-- Kind 0 is a union of the pair (first, second), kind 1 a bridge of pocket `first` to exterior `second`; `index` is the boundary that would go.
pub record Proposal : Type 0 where
  pub index : ℕ
  pub kind : ℕ
  pub first : ℕ
  pub second : ℕ

-- exactly one side of the full pair q lies in the union of p
abbrev pub fits_union : Pair → Pair → Bool
fits_union p q = not (contains q.lo p) && contains q.hi p || contains q.lo p && not (contains q.hi p)

-- the side of q that lies outside the union of p
abbrev pub exterior_of : Pair → Pair → ℕ
exterior_of p q = cond (contains q.lo p) q.hi q.lo

abbrev pub is_some : Option Pair → Bool
is_some o = holds o (λ p. true)

abbrev pub beyond : ℕ → Option Pair → ℕ
beyond r None = r
beyond r (Some p) = other_region r p

abbrev pub names_region : Proposal → ℕ → Bool
names_region p r = eqb p.first r || eqb p.second r

-- By the kinds of the taken proposal q and the later p, which are numbers: where one of them is a union (the first three lines) they may share no region; two bridges
-- (the last) may share their exterior, and nothing else.
abbrev pub region_conflict : ℕ → ℕ → Proposal → Proposal → Bool
region_conflict zero zero q p = names_region q p.first || names_region q p.second
region_conflict (suc m) zero q p = names_region q p.first || names_region q p.second
region_conflict zero (suc k) q p = names_region q p.first || names_region q p.second
region_conflict (suc m) (suc k) q p = eqb q.first p.first || eqb q.first p.second || eqb q.second p.first

-- wider first: no width has its sign bit set, so that total_order on widths (TotalOrder) is the order of their bits (laws: WidthOrder)
unfoldable pub boundary_key : Boundary → List ℕ
unfolding endpoints_key
boundary_key b = (2 ^ 64 - b.width_bits) ∷ endpoints_key b.endpoints

-- `tie_key`: unions before bridges, then by the regions' labels
unfoldable pub tie_key : Proposal → List ℕ
tie_key p = p.kind ∷ p.first ∷ p.second ∷ []

module _ (C : Context) where
  -- ---- unions

  -- the ports of a union are the boundaries about its two regions, other than i
  unfoldable pub is_union_port : ℕ → Pair → ℕ → Bool
  unfolding is_incident
  is_union_port i p j = not (eqb j i) && (is_incident C j p.lo || is_incident C j p.hi)

  -- port j has an exterior that no earlier port has: to count these ports is to count the distinct exteriors
  unfoldable pub is_new_exterior : ℕ → Pair → ℕ → Bool
  unfolding is_union_port full_pair any_below_lem
  is_new_exterior i p j =
      is_union_port i p j
      && holds (full_pair C j) (λ q. not (any_below_lem j (λ k. is_union_port i p k && holds (full_pair C k) (λ o. eqb (exterior_of p o) (exterior_of p q)))))

  abbrev pub anchored_regions : Pair → ℕ
  anchored_regions p = bit (C.anchored p.lo) + bit (C.anchored p.hi)

  unfoldable pub is_near_port : ℕ → ℕ → Bool
  unfolding within_distance center max_port_distance_pixels
  is_near_port i j = within_distance (center (C.boundary i).endpoints) (center (C.boundary j).endpoints) max_port_distance_pixels

  -- every port is a full pair with one side in the union. (The walk of the Rust stops at the first unfit one.)
  unfoldable pub ports_fit : ℕ → Pair → Bool
  unfolding all_below is_union_port full_pair
  ports_fit i p = all_below C.count (λ j. not (is_union_port i p j) || holds (full_pair C j) (fits_union p))

  -- no port is wider than i: `boundaries[index].width_pixels >= widest_port`
  unfoldable pub is_widest : ℕ → Pair → Bool
  unfolding all_below is_union_port le width
  is_widest i p = all_below C.count (λ j. not (is_union_port i p j) || le (width C j) (width C i))

  unfoldable pub union_shape : ℕ → Pair → Bool
  unfolding ports_fit count_below is_union_port all_below is_near_port is_new_exterior is_widest
  union_shape i p =
      no_ramp C i && ltb (anchored_regions p) 2 && ports_fit i p && leb 3 (count_below C.count (is_union_port i p))
      && all_below C.count (λ j. not (is_union_port i p j) || is_near_port i j)
      && leb 3 (count_below C.count (is_new_exterior i p))
      && (not (eqb (anchored_regions p) 1) || is_widest i p)

  unfoldable pub union_regions : ℕ → Pair → Bool
  unfolding within_span_radius within_radius center strictly_flat same_dominance
  union_regions i p =
      let s = C.region p.lo in
      let t = C.region p.hi in
      let ends = (C.boundary i).endpoints in
      let one = eqb (anchored_regions p) 1 in
      not (has_ramp s) && not (has_ramp t)
      && cond one (within_span_radius s ends && within_span_radius t ends) (within_radius s (center ends) && within_radius t (center ends))
      && (strictly_flat s t || one && same_dominance s t)

  unfoldable pub union_from : ℕ → Option Pair → Option Proposal
  unfolding union_shape union_regions
  union_from i None = None
  union_from i (Some p) = only_if (union_shape i p && union_regions i p) (record { index = i; kind = 0; first = p.lo; second = p.hi })

  unfoldable pub union_proposal : ℕ → Option Proposal
  unfolding union_from full_pair
  union_proposal i = union_from i (full_pair C i)

  -- ---- bridges

  -- the boundaries about region r, ascending
  unfoldable pub ports_of : ℕ → List ℕ
  unfolding collect is_incident
  ports_of r = collect C.count (λ j. only_if (is_incident C j r) j)

  -- the region beyond port j of region r
  unfoldable pub port_exterior : ℕ → ℕ → ℕ
  unfolding full_pair
  port_exterior r j = beyond r (full_pair C j)

  -- i and k lead to one region, t to another, which is anchored
  unfoldable pub is_shared : ℕ → ℕ → ℕ → ℕ → Bool
  unfolding port_exterior
  is_shared r i k t = eqb (port_exterior r i) (port_exterior r k) && not (eqb (port_exterior r t) (port_exterior r i)) && C.anchored (port_exterior r t)

  -- i is twice as wide as k, or wider
  unfoldable pub is_twice_as_wide : ℕ → ℕ → Bool
  unfolding le mul float width
  is_twice_as_wide i k = le (mul binary64 (float 2) (width C k)) (width C i)

  -- i may go: all three ports of the pocket r are near, and the pocket is flat and near
  unfoldable pub bridge_fits : ℕ → ℕ → ℕ → ℕ → Bool
  unfolding is_near_port within_radius center strictly_flat
  bridge_fits r i k t =
      is_near_port i i && is_near_port i k && is_near_port i t && not (has_ramp (C.region r)) && within_radius (C.region r) (center (C.boundary i).endpoints)
      && strictly_flat (C.region r) (C.region r)

  unfoldable pub bridge_at : ℕ → ℕ → ℕ → ℕ → Option Proposal
  unfolding bridge_fits port_exterior
  bridge_at r i k t = only_if (bridge_fits r i k t) (record { index = i; kind = 1; first = r; second = port_exterior r i })

  -- of the two that lead to one region, i before k, the one that is twice as wide as the other
  unfoldable pub pick_bridge : ℕ → ℕ → ℕ → ℕ → Option Proposal
  unfolding is_twice_as_wide bridge_at
  pick_bridge r i k t = cond (is_twice_as_wide i k) (bridge_at r i k t) (cond (is_twice_as_wide k i) (bridge_at r k i t) None)

  -- exactly three ports, of which two share their exterior
  unfoldable pub bridge_of_ports : ℕ → List ℕ → Option Proposal
  unfolding is_shared pick_bridge
  bridge_of_ports r [] = None
  bridge_of_ports r (i ∷ []) = None
  bridge_of_ports r (i ∷ j ∷ []) = None
  bridge_of_ports r (i ∷ j ∷ k ∷ []) =
      cond (is_shared r i j k) (pick_bridge r i j k) (cond (is_shared r i k j) (pick_bridge r i k j) (cond (is_shared r j k i) (pick_bridge r j k i) None))
  bridge_of_ports r (i ∷ j ∷ k ∷ x ∷ l) = None

  unfoldable pub bridge_proposal : ℕ → Option Proposal
  unfolding ports_of all full_pair bridge_of_ports
  bridge_proposal r =
      let ps = ports_of r in
      cond (not (C.anchored r) && all (λ j. no_ramp C j && is_some (full_pair C j)) ps) (bridge_of_ports r ps) None

  -- ---- `select_proposals`

  -- the ports that a proposal reserves: of a union without its own boundary, of a bridge with it
  unfoldable pub is_reserved_port : Proposal → ℕ → Bool
  unfolding is_incident
  is_reserved_port p j = (is_incident C j p.first || eqb p.kind 0 && is_incident C j p.second) && not (eqb p.kind 0 && eqb j p.index)

  unfoldable pub key : Proposal → List ℕ
  unfolding boundary_key tie_key
  key p = boundary_key (C.boundary p.index) ++ tie_key p

  unfoldable pub ranks_before : Proposal → Proposal → Bool
  unfolding list_lt key
  ranks_before p q = list_lt (key p) (key q)

  -- q, taken, keeps the later p from being taken
  unfoldable pub conflict : Proposal → Proposal → Bool
  unfolding is_reserved_port any_below_lem
  conflict q p =
      is_reserved_port p q.index || is_reserved_port q p.index || any_below_lem C.count (λ j. is_reserved_port p j && is_reserved_port q j)
      || region_conflict q.kind p.kind q p

  -- unions by boundary, then bridges by pocket
  unfoldable pub proposals : List Proposal
  unfolding collect union_proposal bridge_proposal
  proposals = collect C.count union_proposal ++ collect C.regions (λ k. bridge_proposal (suc k))

  unfoldable pub ranked : List Proposal
  unfolding sort ranks_before proposals
  ranked = sort ranks_before proposals

  unfoldable pub taken : List Proposal
  unfolding select conflict ranked
  taken = select conflict [] ranked

  -- the boundaries that the pass removes
  unfoldable pub removed : List ℕ
  unfolding taken
  removed = map (λ p. p.index) taken
