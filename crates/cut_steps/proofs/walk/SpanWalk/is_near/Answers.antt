-- `SpanWalk::is_near` meets its contract: a cell that is not walkable has no step, of a cell that is far no step is cut, and without the cell to the south only the step
-- east is left. Assumes nothing.
use mathlib.Core.Path.{sym, ◌∙◌}
use borrow.Author.Tests.{not-false}
use Rattle.span_geometry.specs.Shapes.{segment_of}
use Rattle.cut_steps.proofs.Cells.{no_directions, far-directions, east-directions}
use Rattle.cut_steps.proofs.walk.SpanWalk.is_near.Goals as goal
use Rattle.cut_steps.proofs.walk.SpanWalk.is_near.Goals.{then-walks, else-walks}

pub returns-else-not-is_far-clause-where_false : goal.returns-else-not-is_far-clause-where_false
returns-else-not-is_far-clause-where_false c =
    let a = c.args in
    λ e. elim c.if-walks.branch [
      | then-walks w ↦
          far-directions a.self.now.grid.width a.self.now.grid.height a.self.now.grid.cells.now (segment_of a.self.now.g) a.cell.x a.cell.y (w.is_far.ensures (not-false _ (sym w.value-is ∙ e)))
      | else-walks w ↦
          no_directions a.self.now.grid.width a.self.now.grid.height a.self.now.grid.cells.now (segment_of a.self.now.g) a.cell.x a.cell.y (sym c.walks.ensures ∙ w.if-walks.false)
    ]

pub returns-else-walks_south-clause-where_false : goal.returns-else-walks_south-clause-where_false
returns-else-walks_south-clause-where_false c =
    let a = c.args in
    λ e. east-directions a.self.now.grid.width a.self.now.grid.height a.self.now.grid.cells.now (segment_of a.self.now.g) a.cell.x a.cell.y (sym c.walks_south.ensures ∙ c.if-walks_south.false) (c.is_far_eastward.ensures (not-false _ e))
