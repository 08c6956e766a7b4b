-- `cell::steps_inside` meets its contract, by the five cells to the east and in the next row, and the one to the west. Assumes nothing.
use mathlib.Core.Path.{◌∙◌}
use mathlib.Core.Bool.{◌&&◌}
use Rattle.grid_steps.specs.Walk.{grid_of}
use Rattle.cut_steps.specs.Cell.{onward_mask}
use Rattle.cut_steps.proofs.Steps.{inside-steps}
use Rattle.cut_steps.proofs.cell.steps_inside.Goals as goal

pub returns : goal.returns
returns c =
    let a = c.args in
    let east = c.walks-east.ensures in
    let south = c.walks-south.ensures in
    let west = c.walks-west.ensures in
    let south-west = c.walks-south_west.ensures in
    let south-east = c.walks-south_east.ensures in
    c.onward_mask.ensures ∙ (λ i. onward_mask (east i) (south-west i && west i && south i) (south i) (south-east i && east i && south i))
    ∙ inside-steps (grid_of a.grid.width a.grid.height a.grid.cells.now) a.cell.x a.cell.y c.requires.asked.1 c.requires.inside.0
