-- `SpanWalk::cut_directions` meets its contract: the four calls give the four bits. Assumes nothing.
use Rattle.span_geometry.specs.Shapes.{segment_of}
use Rattle.cut_steps.proofs.Cells.{four-directions}
use Rattle.cut_steps.proofs.walk.SpanWalk.cut_directions.Goals as goal

pub returns : goal.returns
returns c =
    let a = c.args in
    four-directions a.self.now.grid.width a.self.now.grid.height a.self.now.grid.cells.now (segment_of a.self.now.g) a.cell.x a.cell.y c.is_cut_east.ensures c.is_cut_onward.ensures c.is_cut_onward-2.ensures c.is_cut_onward-3.ensures c.onward_mask.ensures
