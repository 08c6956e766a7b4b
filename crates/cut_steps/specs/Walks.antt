-- The words of the contracts of the walk over a span on a grid. Definitions only; assumes nothing.
use Rattle.std.specs.Prelude.{ℕ, ◌*◌, ◌≤◌, ◌≡◌, true, List, length}
use Rattle.definitions.specs.Limits.{max_side}
use Rattle.definitions.specs.Grid.{Map, Pair, at}
use Rattle.definitions.specs.Refusals.{endpoints_differ}
use Rattle.span_geometry.specs.declared.SpanGeometry.{SpanGeometry}
use Rattle.span_geometry.specs.Shapes.{Sound, segment_of}
use Rattle.grid_steps.specs.declared.grid.TerrainGrid.{TerrainGrid}
use Rattle.grid_steps.specs.declared.grid.WalkPosition.{WalkPosition}
use Rattle.grid_steps.specs.Grids.{terrain_of}
use Rattle.cut_steps.specs.declared.walk.SpanWalk.{SpanWalk}
use Rattle.cut_steps.specs.CutSteps.{cut_from}
use Rattle.cut_steps.specs.Cell.{CellAsked, CutDirections}
use Rattle.cut_steps.specs.Columns.{ColumnAsked, cut_column}
use Rattle.cut_steps.specs.Crossed.{ColumnsAsked, cut_two_back, cut_columns}

-- as many cells as the largest map has
abbrev pub max_cells : ℕ
max_cells = max_side * max_side

abbrev pub walk_map : SpanWalk → Map
walk_map walk = terrain_of walk.grid

-- ---- the cut steps of a cell, of the cell at two less than `beyond` across column, or row, k, of the candidates in column, or row, k, and of those in several

abbrev pub cell_steps : SpanWalk → WalkPosition → List Pair
cell_steps walk cell = cut_from (walk_map walk) (segment_of walk.g) (at cell.x cell.y)

abbrev pub across_steps : SpanWalk → (k beyond : ℕ) → List Pair
across_steps walk k beyond = cut_two_back (walk_map walk) (segment_of walk.g) walk.strip k beyond

abbrev pub column_steps : SpanWalk → ℕ → List Pair
column_steps walk k = cut_column (walk_map walk) (segment_of walk.g) walk.strip k

abbrev pub columns_steps : SpanWalk → (from to : ℕ) → List Pair
columns_steps walk from to = cut_columns (walk_map walk) (segment_of walk.g) walk.strip from to

-- ---- what is lent

-- a span on a grid within the limits
pub record GridSound (grid : TerrainGrid) (g : SpanGeometry) : Type 0 where
  pub narrow : grid.width ≤ max_side
  pub short : grid.height ≤ max_side
  pub cells_long : length grid.cells.now ≡ grid.height * grid.width
  pub sound : Sound g

-- a cell of the grid
abbrev pub CellIn : SpanWalk → WalkPosition → Type 0
CellIn walk cell = CellAsked walk.grid.width walk.grid.height walk.grid.cells.now walk.g cell.x cell.y

abbrev pub ColumnIn : SpanWalk → ℕ → Type 0
ColumnIn walk k = GridSound walk.grid walk.g × ColumnAsked walk.grid.width walk.grid.height walk.strip k

abbrev pub ColumnsIn : SpanWalk → (from to : ℕ) → Type 0
ColumnsIn walk from to = GridSound walk.grid walk.g × ColumnsAsked walk.grid.width walk.grid.height walk.strip from to

-- a span whose endpoints differ, and a grid that is not empty
pub record SpanIn (grid : TerrainGrid) (g : SpanGeometry) : Type 0 where
  pub grid_sound : GridSound grid g
  pub wide : 1 ≤ grid.width
  pub tall : 1 ≤ grid.height
  pub differ : endpoints_differ (segment_of g) ≡ true

-- ---- what is found of a cell

-- each direction of the mask is that of a cut step, and each cut step onward has its direction there
abbrev pub CutIn : SpanWalk → WalkPosition → ℕ → Type 0
CutIn walk cell directions = CutDirections walk.grid.width walk.grid.height walk.grid.cells.now (segment_of walk.g) cell.x cell.y directions
