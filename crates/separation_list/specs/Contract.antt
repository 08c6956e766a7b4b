-- Words of the crate's contracts: what the functions below the operation ask for. Definitions only. Assumes nothing.
use Rattle.std.specs.Prelude.{List, ℕ, ◌+◌, ◌*◌, ◌≤◌, ◌<◌, length}
use Rattle.definitions.specs.Limits.{max_entries}
use Rattle.laws.specs.FloatLaws.Pixels.{PixelSegment}
use Rattle.separations.specs.Listing.{boundary_count, ends_of_lem, separation_rows}

-- every boundary's endpoints are pixels up to 8,192
pub record OnPixels (boundaries : List ℕ) : Type 0 where
  pub ends : (i : ℕ) → i < boundary_count boundaries → PixelSegment (ends_of_lem boundaries i)

-- what the functions below the operation ask for, of boundaries i and j, of boundary j and those before it, of the first n: they are listed, and their rows fit
-- behind k
pub record PairFits (boundaries output : List ℕ) (k i j : ℕ) : Type 0 where
  pub pixels : OnPixels boundaries
  pub first : i < boundary_count boundaries
  pub second : j < boundary_count boundaries
  pub room : k + 4 < length output

pub record ColumnFits (boundaries output : List ℕ) (k j : ℕ) : Type 0 where
  pub pixels : OnPixels boundaries
  pub listed : j < boundary_count boundaries
  pub room : k + 5 * j ≤ length output

pub record RowsFit (boundaries output : List ℕ) (n : ℕ) : Type 0 where
  pub pixels : OnPixels boundaries
  pub listed : n ≤ boundary_count boundaries
  pub few : n ≤ max_entries
  pub room : length (separation_rows boundaries n) ≤ length output

-- no fewer than the pairs of 256 boundaries
abbrev pub max_pairs : ℕ
max_pairs = max_entries * max_entries
