-- What a pass reads (SPECIFICATION 9; PartitionContext of context.rs with the boundaries): the boundaries and their assessments,
-- and of each region whether it is anchored and its record. A pass is a function of this and of nothing else. Assumes nothing.
use Rattle.std.specs.Prelude.{ℕ, Bool, true, false, ◌&&◌, cond, List, [], ◌∷◌, map, length, get_or, eqb, ltb, Float, Option, None, Some}
use Rattle.std.specs.Float.Ieee.{binary64, of_bits}
use Rattle.definitions.specs.Scan.{run, any, filter, count_below}
use Rattle.definitions.specs.Grid.{Map, Segment, Boundary, Pair, contains, canonical, span_count, boundary_of}
use Rattle.definitions.specs.Spans.{cut_steps}
use Rattle.definitions.specs.Partition.{labels, region_count, pairs_of, is_separated}
use Rattle.definitions.specs.RegionRecord.{Region, region_of}

-- `count` is how many spans there are; boundary, removed_edges, separated_edges and pairs are by a boundary's number from 0 (its span is that of the
-- same number), anchored and region by a region's label.
pub record Context : Type 0 where
  pub count : ℕ
  pub regions : ℕ
  pub boundary : ℕ → Boundary
  pub removed_edges : ℕ → ℕ
  pub separated_edges : ℕ → ℕ
  pub pairs : ℕ → List Pair
  pub anchored : ℕ → Bool
  pub region : ℕ → Region

-- an anchor makes its cell's label anchored, label 0 included
unfoldable pub anchored_of : Map → List ℕ → ℕ → Bool
unfolding any
anchored_of M ls r = any (λ c. eqb (get_or ls c 0) r) M.anchors

-- the context of a map
unfoldable pub context_of : Map → Context
unfolding labels cut_steps run span_count pairs_of region_count boundary_of filter anchored_of region_of
context_of M =
    let ls = labels M in
    let cut = map (cut_steps M) (run 0 (span_count M)) in
    let pairs = map (pairs_of ls) cut in
    record {
      count = span_count M;
      regions = region_count M;
      boundary = boundary_of M;
      removed_edges = λ s. length (get_or cut s []);
      separated_edges = λ s. length (filter (is_separated ls) (get_or cut s []));
      pairs = λ s. get_or pairs s [];
      anchored = anchored_of M ls;
      region = region_of M ls;
    }

-- ---- of a context

abbrev pub only_pair : Bool → List Pair → Option Pair
only_pair true [] = None
only_pair true (p ∷ []) = Some p
only_pair true (p ∷ q ∷ l) = None
only_pair false l = None

abbrev pub holds : Option Pair → (Pair → Bool) → Bool
holds None f = false
holds (Some p) f = f p

-- the region of p that is not r
abbrev pub other_region : ℕ → Pair → ℕ
other_region r p = cond (eqb p.lo r) p.hi p.lo

-- the four numbers of canonical endpoints, as which endpoints compare (`compare_boundaries`)
unfoldable pub endpoints_key : Segment → List ℕ
unfolding canonical
endpoints_key s = (canonical s).a.x ∷ (canonical s).a.y ∷ (canonical s).b.x ∷ (canonical s).b.y ∷ []

module _ (C : Context) where
  -- `full_cut`: every removed edge is separated, and there is one. (The Rust also asks for a pair, and that each pair's labels differ: laws, FullCut.)
  unfoldable pub full_cut : ℕ → Bool
  full_cut i = ltb 0 (C.removed_edges i) && eqb (C.removed_edges i) (C.separated_edges i)

  -- `full_pair`
  unfoldable pub full_pair : ℕ → Option Pair
  unfolding full_cut
  full_pair i = only_pair (full_cut i) (C.pairs i)

  -- i is an incident of region r: its span has a pair naming it
  unfoldable pub is_incident : ℕ → ℕ → Bool
  unfolding any
  is_incident i r = any (contains r) (C.pairs i)

  -- `incidents.get(&r).len()`
  unfoldable pub incident_count : ℕ → ℕ
  unfolding count_below is_incident
  incident_count r = count_below C.count (λ j. is_incident j r)

  -- `ramp.is_none()`
  abbrev pub no_ramp : ℕ → Bool
  no_ramp i = eqb (C.boundary i).kind 0

  -- `width_pixels`
  unfoldable pub width : ℕ → Float
  unfolding of_bits
  width i = of_bits binary64 (C.boundary i).width_bits
