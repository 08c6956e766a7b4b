-- The words of the contracts of a run of cells, those from one place to before another of a row. Definitions only; assumes nothing.
use Rattle.std.specs.Prelude.{ℕ, ◌+◌, ◌-◌, ◌^◌, ◌≤◌, ◌<◌, ◌≡◌, List, [], ◌∷◌, map, length, get_or, eqb}
use Rattle.definitions.specs.Limits.{max_side}
use Rattle.definitions.specs.Scan.{count_below}
use Rattle.definitions.specs.Grid.{is_ramp, elevation}
use Rattle.definitions.specs.Geometry.{float}
use Rattle.definitions.specs.RegionRecord.{Region}
use Rattle.context.specs.declared.runs.RunCounts.{RunCounts}
use Rattle.context.specs.Records.{max_cells}

-- the places lie within the list, at most a row apart, and every cell between them has one of the four elevations
pub record Within (bytes : List ℕ) (from end : ℕ) : Type 0 where
  pub some : from < end
  pub inside : end ≤ length bytes
  pub narrow : end - from ≤ max_side
  pub counted : (k : ℕ) → from ≤ k → k < end → elevation (get_or bytes k 0) < 4

-- of the n cells from c on: how many have elevation e, the counts of all four, and how many have the ramp bit
abbrev pub elevation_among : List ℕ → ℕ → ℕ → ℕ → ℕ
elevation_among bytes c n e = count_below n (λ i. eqb (elevation (get_or bytes (c + i) 0)) e)

abbrev pub elevations_among : List ℕ → ℕ → ℕ → List ℕ
elevations_among bytes c n = map (elevation_among bytes c n) (0 ∷ 1 ∷ 2 ∷ 3 ∷ [])

abbrev pub ramps_among : List ℕ → ℕ → ℕ → ℕ
ramps_among bytes c n = count_below n (λ i. is_ramp (get_or bytes (c + i) 0))

pub record RunCounted (bytes : List ℕ) (c n : ℕ) (r : RunCounts) : Type 0 where
  pub ramps : r.ramps ≡ ramps_among bytes c n
  pub elevations : r.elevations ≡ elevations_among bytes c n

-- The run from `from` to before `end` stands in a row y of a map, from column x on, and there is room for it in a record s. The edges of s to the left and to the
-- right are whole pixels, as those of every record of cells are: so that they are moved out once, not cell by cell.
pub record FittingRun (s : Region) (x y : ℕ) (bytes : List ℕ) (from end : ℕ) : Type 0 where
  pub within : Within bytes from end
  pub room : s.cells + (end - from) ≤ max_cells
  pub columns : x + (end - from) ≤ max_side
  pub row : y < max_side
  pub left : (k : ℕ) × ((k ≤ 2 ^ 53) × (s.min_x_lem ≡ float k))
  pub right : (k : ℕ) × ((k ≤ 2 ^ 53) × (s.max_x_lem ≡ float k))
