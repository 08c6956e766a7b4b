-- `SpanWalk::is_cut_east` meets its contract: of a cell that is far the step is not cut, and else `is_cut_onward` decides. Assumes nothing.
use mathlib.Core.Path.{ap, ◌∙◌}
use mathlib.Core.Bool.{not}
use Rattle.definitions.specs.Grid.{at}
use Rattle.span_geometry.specs.Shapes.{segment_of}
use Rattle.grid_steps.specs.Walk.{grid_of}
use Rattle.cut_steps.proofs.Onward.{clear_of}
use Rattle.cut_steps.proofs.walk.SpanWalk.is_cut_east.Goals as goal

pub returns-else-not-is_far_eastward : goal.returns-else-not-is_far_eastward
returns-else-not-is_far_eastward c =
    let a = c.args in
    ap not c.if-not-is_far_eastward.false
    ∙ clear_of (grid_of a.self.now.grid.width a.self.now.grid.height a.self.now.grid.cells.now) (segment_of a.self.now.g) (at a.cell.x a.cell.y) (at 2 1) (c.is_far_eastward.ensures c.if-not-is_far_eastward.false)
