-- `TerrainGrid::walks` meets its contract: the cell is in the grid. Assumes nothing.
use mathlib.Core.Path.{sym, ◌∙◌}
use Rattle.grid_steps.proofs.StepTests.{walkable_at_lem}
use Rattle.grid_steps.proofs.grid.TerrainGrid.walks.Goals as goal

pub returns : goal.returns
returns c =
    let a = c.args in
    c.is_walkable.ensures ∙ sym (walkable_at_lem a.self.width a.self.height a.self.cells.now a.x a.y c.requires.within.0 c.requires.within.1)
