-- What is added up, and what it must give: the cells and the ramp cells of records, and the walkable cells and the walkable ramp cells of a grid. Definitions only.
use Rattle.std.specs.Prelude.{ℕ, ◌+◌, ◌≡◌, ◌&&◌, List, [], ◌∷◌}
use Rattle.definitions.specs.Scan.{count_below}
use Rattle.definitions.specs.Grid.{Map, cell_count, cell_at, is_ramp}
use Rattle.definitions.specs.Partition.{walkable_at}
use Rattle.definitions.specs.RegionRecord.{Region}

-- what f gives of each record, added up
unfoldable pub total : (Region → ℕ) → List Region → ℕ
total f [] = 0
total f (s ∷ l) = f s + total f l

unfoldable pub walkable_cells : Map → ℕ
unfolding count_below cell_count
walkable_cells M = count_below (cell_count M) (walkable_at M)

unfoldable pub walkable_ramp_cells : Map → ℕ
unfolding count_below cell_count
walkable_ramp_cells M = count_below (cell_count M) (λ c. walkable_at M c && is_ramp (cell_at M c))

-- "The sum over the regions' records equals the walkable ramp cells of the grid, and the cell counts sum to its walkable cells."
pub record AddUp (M : Map) (records : List Region) : Type 0 where
  pub ramps : total (λ s. s.ramp_cells_lem) records ≡ walkable_ramp_cells M
  pub cells : total (λ s. s.cells) records ≡ walkable_cells M
