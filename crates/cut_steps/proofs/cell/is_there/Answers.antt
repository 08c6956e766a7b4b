-- `cell::is_there` meets its contract: outside the grid there is no step, and in it `is_step` decides. Assumes nothing.
use mathlib.Core.Path.{◌∙◌}
use Rattle.cut_steps.proofs.Steps.{not_there}
use Rattle.cut_steps.proofs.cell.is_there.Goals as goal

pub returns-else-is_inside : goal.returns-else-is_inside
returns-else-is_inside c =
    let a = c.args in
    c.if-is_inside.false ∙ not_there a.grid.width a.grid.height a.grid.cells.now a.cell.x a.cell.y a.direction.dx a.direction.dy (c.is_inside.ensures.1 c.if-is_inside.false)
