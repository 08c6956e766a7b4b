-- `SpanWalk::is_cut_onward` meets its contract: where one of the first two tests fails there is no step, and past them `cuts` decides. Assumes nothing.
use mathlib.Core.Path.{sym, ◌∙◌}
use mathlib.Core.Bool.{true≢false}
use Rattle.definitions.specs.Grid.{at}
use Rattle.span_geometry.specs.Shapes.{segment_of}
use Rattle.grid_steps.specs.Walk.{grid_of}
use Rattle.cut_steps.proofs.Onward.{blocked, onward-cut}
use Rattle.cut_steps.proofs.Cells.{outside}
use Rattle.cut_steps.proofs.walk.SpanWalk.is_cut_onward.Goals as goal
use Rattle.cut_steps.proofs.walk.SpanWalk.is_cut_onward.Goals.{then-inner, else-inner, then-is_inside, else-is_inside}

pub returns-then-is_step : goal.returns-then-is_step
returns-then-is_step c =
    let a = c.args in
    elim c.if-is_inside.branch [
      | then-is_inside w ↦
          c.cuts.ensures
          ∙ onward-cut (grid_of a.self.now.grid.width a.self.now.grid.height a.self.now.grid.cells.now) (segment_of a.self.now.g) (at a.cell.x a.cell.y) (at a.direction.dx a.direction.dy) (sym w.is_step.ensures ∙ sym w.value-is ∙ c.if-is_step.true) c.requires.asked.onward
      | else-is_inside w ↦ absurd (true≢false (sym c.if-is_step.true ∙ w.value-is ∙ w.if-is_inside.false))
    ]

pub returns-else-is_step : goal.returns-else-is_step
returns-else-is_step c =
    let a = c.args in
    c.if-is_step.false
    ∙ (elim c.if-is_inside.branch [
      | then-is_inside w ↦
          blocked (grid_of a.self.now.grid.width a.self.now.grid.height a.self.now.grid.cells.now) (segment_of a.self.now.g) (at a.cell.x a.cell.y) (at a.direction.dx a.direction.dy) (sym w.is_step.ensures ∙ sym w.value-is ∙ c.if-is_step.false)
      | else-is_inside w ↦
          elim c.if-inner.branch [
            | then-inner v ↦ absurd (true≢false (sym v.if-inner.true ∙ sym v.value-is ∙ w.if-is_inside.false))
            | else-inner v ↦
                outside a.self.now.grid.width a.self.now.grid.height a.self.now.grid.cells.now (segment_of a.self.now.g) a.cell.x a.cell.y a.direction.dx a.direction.dy (v.is_inside.ensures.1 (sym v.value-is ∙ w.if-is_inside.false))
          ]
    ])
