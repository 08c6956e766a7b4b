-- Records of regions as plain numbers, as the call with records of its own writes them. Definitions only; assumes nothing.
use Rattle.std.specs.Prelude.{ℕ, ◌/◌, List, [], ◌∷◌, ◌++◌, length, take}
use Rattle.std.specs.Float.{binary64}
use Rattle.std.specs.Float.Ieee.{to_bits}
use Rattle.definitions.specs.Lists.{overwrite}
use Rattle.definitions.specs.RegionRecord.{Region, elevation_count}

abbrev pub numbers_per_record : ℕ
numbers_per_record = 11

-- cells, the bits of the four edges, ramp cells, the mask, and the count of each elevation
abbrev pub record_numbers : Region → List ℕ
record_numbers s =
    s.cells
    ∷ to_bits binary64 s.min_x_lem
    ∷ to_bits binary64 s.min_y_lem
    ∷ to_bits binary64 s.max_x_lem
    ∷ to_bits binary64 s.max_y_lem
    ∷ s.ramp_cells_lem
    ∷ s.elevations
    ∷ elevation_count s 0
    ∷ elevation_count s 1
    ∷ elevation_count s 2
    ∷ elevation_count s 3
    ∷ []

-- one record behind the other
abbrev pub all_numbers : List Region → List ℕ
all_numbers [] = []
all_numbers (s ∷ l) = record_numbers s ++ all_numbers l

-- a list of numbers once the records, as many as it has room for, are written in front
abbrev pub with_records : List Region → List ℕ → List ℕ
with_records l numbers = overwrite (all_numbers (take (length numbers / numbers_per_record) l)) numbers
