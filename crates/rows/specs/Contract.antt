-- What the functions that collect and write rows promise. Definitions only; assumes nothing.
use Rattle.std.specs.Prelude.{ℕ, ◌*◌, Bool, false, not, List, get_or}
use Rattle.definitions.specs.Limits.{numbers_per_boundary}
use Rattle.definitions.specs.Scan.{collect, only_if}
use Rattle.definitions.specs.Grid.{boundary_at}
use Rattle.definitions.specs.Rows.{Row, rows_from}
use Rattle.rows.specs.Order.{canonical_row}

-- the mark of boundary i is not set
abbrev pub not_removed : List Bool → ℕ → Bool
not_removed removed i = not (get_or removed i false)

-- the kept boundaries' rows by number, as they are before they are sorted
unfoldable pub left_rows : List ℕ → ℕ → List Bool → List Row
unfolding collect
left_rows boundaries count removed = collect count (λ i. only_if (not_removed removed i) (canonical_row boundaries i))

-- the kept boundaries' rows
abbrev pub kept_rows : List ℕ → ℕ → List Bool → List Row
kept_rows boundaries count removed = rows_from count (λ i. boundary_at boundaries (numbers_per_boundary * i)) (not_removed removed)
