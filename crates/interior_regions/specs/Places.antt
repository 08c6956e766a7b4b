-- The regions of rows, place by place: row j has the places 2 j and 2 j + 1. Definitions only; assumes nothing.
use Rattle.std.specs.Prelude.{ℕ, ◌+◌, ◌*◌, ◌/◌, ◌≤◌, ◌<◌, Bool, not, ◌&&◌, ◌||◌, List, length, eqb, leb}
use Rattle.definitions.specs.Limits.{numbers_per_pair}
use Rattle.definitions.specs.Scan.{any_below_lem, all_below}
use Rattle.definitions.specs.RegionRecord.{has_ramp}
use Rattle.definitions.specs.Context.{Context}
use Rattle.definitions.specs.RampInteriors.{region_fits}
use Rattle.interior_proposals.specs.Owners.{entry_at}
pub use Rattle.region_pairs.specs.Forms.{region_at}

-- the row of place k stands in the list, and names a region up to n there
pub record Readable (rows : List ℕ) (n k : ℕ) : Type 0 where
  pub whole : numbers_per_pair * (k / 2) + 2 < length rows
  pub from : 1 ≤ region_at rows k
  pub upto : region_at rows k ≤ n

abbrev pub AllReadable : List ℕ → ℕ → ℕ → ℕ → Type 0
AllReadable rows n first end = (k : ℕ) → first ≤ k → k < end → Readable rows n k

-- the region at place k has the name
abbrev pub is_named : List ℕ → List ℕ → ℕ → ℕ → Bool
is_named rows names name k = eqb (entry_at names (region_at rows k)) name

-- ---- what is asked of the records of regions

module _ (C : Context) (rows names : List ℕ) (name first a b : ℕ) where
  abbrev pub fits_at : ℕ → Bool
  fits_at k = not (leb first k && is_named rows names name k) || region_fits C a b (region_at rows k)

  abbrev pub ramp_at : ℕ → Bool
  ramp_at k = (leb first k && is_named rows names name k) && has_ramp (C.region (region_at rows k))

  -- the regions with the name, at the places from `first` on, fit the ports a and b, and one has a ramp; as `records_fit` asks it of a list
  unfoldable pub interior_fits_lem : ℕ → Bool
  unfolding all_below any_below_lem region_fits
  interior_fits_lem end = any_below_lem end ramp_at && all_below end fits_at
