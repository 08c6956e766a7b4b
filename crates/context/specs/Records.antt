-- What the struct `Region` stands for, and what the code asks of a record so that no number wraps. Assumes nothing.
use Rattle.std.specs.Prelude.{ℕ, ◌*◌, ◌≤◌}
use Rattle.definitions.specs.Limits.{max_side}
use Rattle.definitions.specs.RegionRecord.{elevation_count}
use Rattle.definitions.specs.RegionRecord as def
use Rattle.context.specs.declared.Region.{Region}

abbrev pub record_of : Region → def.Region
record_of s =
    record {
      cells = s.cells;
      min_x_lem = s.min_x;
      min_y_lem = s.min_y;
      max_x_lem = s.max_x;
      max_y_lem = s.max_y;
      ramp_cells_lem = s.ramp_cells;
      elevations = s.elevations;
      elevation_counts_lem = s.elevation_counts;
    }

-- ---- what is asked of a record

-- as many cells as the largest map has
abbrev pub max_cells : ℕ
max_cells = max_side * max_side

-- it counts no more cells than a map has, and of ramps and of each elevation no more than in all
pub record Counted (s : def.Region) : Type 0 where
  pub few : s.cells ≤ max_cells
  pub ramps : s.ramp_cells_lem ≤ s.cells
  pub each : (e : ℕ) → elevation_count s e ≤ s.cells
