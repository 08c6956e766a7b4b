-- A context as the plain lists that the passes read: which entries show what of it. Of a span's pairs, the rows from `starts` s up to `starts` (s + 1) are meant.
-- What is said of regions stands at r - 1 for region r. Definitions only; assumes nothing.
use Rattle.std.specs.Prelude.{ℕ, ◌+◌, ◌-◌, ◌*◌, ◌%◌, ◌≤◌, ◌<◌, ◌≡◌, List, length, get_or, eqb, Option, None}
use Rattle.definitions.specs.Limits.{max_entries, numbers_per_boundary, tallies_per_span, numbers_per_pair}
use Rattle.definitions.specs.Grid.{boundary_at}
use Rattle.definitions.specs.Context.{Context, incident_count, full_pair}
use Rattle.laws.specs.ListLaws.Lists.{All}
use Rattle.region_pairs.specs.declared.Pair.{Pair}
use Rattle.context.specs.Rows.{full_pair_of}
pub use Rattle.laws.specs.RegionLaws.PairRows.{pair_at}
unfoldable pub use Rattle.laws.specs.RegionLaws.PairRows.{pairs_between}

-- ---- what is shown

pub record ShownBoundaries (C : Context) (boundaries : List ℕ) : Type 0 where
  pub few : C.count ≤ max_entries
  pub long : numbers_per_boundary * C.count ≤ length boundaries
  pub at : (i : ℕ) → i < C.count → C.boundary i ≡ boundary_at boundaries (numbers_per_boundary * i)

pub record ShownTallies (C : Context) (tallies : List ℕ) : Type 0 where
  pub few : C.count ≤ max_entries
  pub long : tallies_per_span * C.count ≤ length tallies
  pub removed : (i : ℕ) → i < C.count → C.removed_edges i ≡ get_or tallies (tallies_per_span * i) 0
  pub separated : (i : ℕ) → i < C.count → C.separated_edges i ≡ get_or tallies (tallies_per_span * i + 1) 0

pub record ShownPairs (C : Context) (rows starts : List ℕ) : Type 0 where
  pub few : C.count ≤ max_entries
  pub starts_long : C.count < length starts
  pub rising : (i : ℕ) → i < C.count → get_or starts i 0 ≤ get_or starts (i + 1) 0
  pub long : numbers_per_pair * get_or starts C.count 0 ≤ length rows
  pub at : (i : ℕ) → i < C.count → C.pairs i ≡ pairs_between rows (get_or starts i 0) (get_or starts (i + 1) 0)
  -- two different regions, the smaller first, from 1 on
  pub named : (i : ℕ) → i < C.count → All (λ p. (1 ≤ p.lo) × ((p.lo < p.hi) × (p.hi ≤ C.regions))) (C.pairs i)

-- an odd mark says that the region is anchored
pub record ShownAnchored (C : Context) (marks : List ℕ) : Type 0 where
  pub long : C.regions ≤ length marks
  pub at : (r : ℕ) → 1 ≤ r → r ≤ C.regions → C.anchored r ≡ eqb (get_or marks (r - 1) 0 % 2) 1

pub record ShownIncidents (C : Context) (counts : List ℕ) : Type 0 where
  pub long : C.regions ≤ length counts
  pub at : (r : ℕ) → 1 ≤ r → r ≤ C.regions → incident_count C r ≡ get_or counts (r - 1) 0

-- the full pair of each boundary
pub record ShownFullPairs (C : Context) (full : List (Option Pair)) : Type 0 where
  pub few : C.count ≤ max_entries
  pub long : C.count ≤ length full
  pub at : (i : ℕ) → i < C.count → full_pair_of (get_or full i None) ≡ full_pair C i
