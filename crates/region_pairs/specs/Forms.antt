-- The pair of the definitions that a pair of regions stands for, and the regions of rows place by place. Definitions only; assumes nothing.
use Rattle.std.specs.Prelude.{ℕ, ◌+◌, ◌*◌, ◌/◌, ◌%◌, List, get_or, Option, None, Some}
use Rattle.definitions.specs.Limits.{numbers_per_pair}
use Rattle.definitions.specs.Grid.{Pair}
use Rattle.region_pairs.specs.declared.Pair as declared

abbrev pub pair_form : declared.Pair → Pair
pair_form p = record { lo = p.lo; hi = p.hi }

abbrev pub full_pair_of : Option declared.Pair → Option Pair
full_pair_of None = None
full_pair_of (Some p) = Some (pair_form p)

-- the region at place k: row j has the places 2 j and 2 j + 1
abbrev pub region_at : List ℕ → ℕ → ℕ
region_at rows k = get_or rows (numbers_per_pair * (k / 2) + 1 + k % 2) 0
