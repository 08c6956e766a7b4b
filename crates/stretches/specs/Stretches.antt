-- The words of the contracts of `stretch_at` and `with_stretch`. Definitions only; assumes nothing.
use Rattle.std.specs.Prelude.{ℕ, ◌+◌, ◌*◌, ◌/◌, ◌≤◌, ◌<◌, ◌≡◌, true, List, length, get_or, take}
use Rattle.definitions.specs.Limits.{is_side}
use Rattle.definitions.specs.Grid.{Map, cell_count, cell_at, elevation}
use Rattle.definitions.specs.Partition.{labels}
use Rattle.definitions.specs.RegionRecord.{Region, region_of}
use Rattle.stretches.specs.declared.Stretch.{Stretch}

pub record Read (l q : List ℕ) (c : ℕ) (s : Stretch) : Type 0 where
  pub end : s.end ≡ get_or q c 0
  pub label : s.label ≡ get_or l c 0

-- the record of region r, a number from 1 on, from its cells before cell c: from there on no cell has a label
unfoldable pub region_up_to : Map → List ℕ → ℕ → ℕ → Region
unfolding region_of
region_up_to M ls r c = region_of M (take c ls) r

-- s is the record of region r from its cells before cell `from`, and those from there to before `end` are of region r too and stand in one row
pub record Adding (M : Map) (w : ℕ) (bytes : List ℕ) (from end r : ℕ) (s : Region) : Type 0 where
  pub width : M.width ≡ w
  pub cells : M.cells ≡ bytes
  pub wide : is_side M.width ≡ true
  pub high : is_side M.height ≡ true
  pub bytes_long : length bytes ≡ cell_count M
  pub numbered : 1 ≤ r
  pub more : from < end
  pub inside : end ≤ cell_count M
  pub row : end ≤ (from / M.width + 1) * M.width
  pub mine : (d : ℕ) → from ≤ d → d < end → get_or (labels M) d 0 ≡ r
  pub low : (d : ℕ) → from ≤ d → d < end → elevation (cell_at M d) < 4
  pub before : s ≡ region_up_to M (labels M) r from
