-- A region's record made cell by cell, as PartitionContext::new of context.rs makes it: `add_cell` adds one, `add_run` those of a run, from the first on.
-- In the Rust an empty record's edges are infinite; ours are zero, and the first cell sets them. Assumes nothing.
use Rattle.std.specs.Prelude.{ℕ, zero, suc, ◌+◌, ◌*◌, ◌/◌, ◌%◌, ◌^◌, Bool, cond, List, get_or, set, eqb, Float}
use Rattle.std.specs.Int.Bits.{bit_or}
use Rattle.std.specs.Float.Ieee.{lt}
use Rattle.definitions.specs.Scan.{bit}
use Rattle.definitions.specs.Grid.{Map, cell_at, is_ramp, elevation}
use Rattle.definitions.specs.Spans.{pixels_per_walk_cell}
use Rattle.definitions.specs.Geometry.{float}
use Rattle.definitions.specs.RegionRecord.{Region, elevation_count}

-- ---- one cell

-- the edge after a cell whose own edge is `new`
abbrev pub lesser_edge : Bool → Float → Float → Float
lesser_edge first old new = cond first new (cond (lt new old) new old)

abbrev pub greater_edge : Bool → Float → Float → Float
greater_edge first old new = cond first new (cond (lt old new) new old)

-- one cell more, at column x and row y
unfoldable pub add_cell : Region → ℕ → ℕ → ℕ → Region
unfolding float
add_cell s x y cell =
    let first = eqb s.cells 0 in
    let e = elevation cell in
    record {
      cells = s.cells + 1;
      min_x_lem = lesser_edge first s.min_x_lem (float (x * pixels_per_walk_cell));
      min_y_lem = lesser_edge first s.min_y_lem (float (y * pixels_per_walk_cell));
      max_x_lem = greater_edge first s.max_x_lem (float ((x + 1) * pixels_per_walk_cell));
      max_y_lem = greater_edge first s.max_y_lem (float ((y + 1) * pixels_per_walk_cell));
      ramp_cells_lem = s.ramp_cells_lem + bit (is_ramp cell);
      elevations = bit_or s.elevations (2 ^ e);
      elevation_counts_lem = set s.elevation_counts_lem e (elevation_count s e + 1);
    }

-- cell c of the map
unfoldable pub add_cell_of : Map → Region → ℕ → Region
unfolding add_cell
add_cell_of M s c = add_cell s (c % M.width) (c / M.width) (cell_at M c)

-- ---- the cells of a run

-- n cells, one by one: those from place c of the bytes on, which stand in row y from column x on
unfoldable pub add_run : Region → ℕ → ℕ → List ℕ → ℕ → ℕ → Region
unfolding add_cell
add_run s x y bytes c zero = s
add_run s x y bytes c (suc n) = add_cell (add_run s x y bytes c n) (x + n) y (get_or bytes (c + n) 0)
