-- The map of a grid as lent. Definitions only; assumes nothing.
use Rattle.definitions.specs.Grid.{Map}
use Rattle.grid_steps.specs.declared.grid.TerrainGrid.{TerrainGrid}
use Rattle.grid_steps.specs.Walk.{grid_of}

-- the map of the lent bytes
abbrev pub terrain_of : TerrainGrid → Map
terrain_of grid = grid_of grid.width grid.height grid.cells.now
