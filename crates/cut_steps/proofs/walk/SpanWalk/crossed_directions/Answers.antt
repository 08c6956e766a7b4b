-- `SpanWalk::crossed_directions` meets its contract: of the steps that change sides those that are there (`crossed-cell`). Assumes nothing.
use native.Mathlib.Omega.{arith}
use mathlib.Core.Path.{refl, sym, ◌∙◌}
use borrow.Author.Tests.{not-true}
use Rattle.definitions.specs.Grid.{at}
use Rattle.span_geometry.specs.Shapes.{segment_of}
use Rattle.grid_steps.specs.Walk.{grid_of}
use Rattle.cut_steps.proofs.Onward.{no_step, no_bits}
use Rattle.cut_steps.proofs.Changes.{crossed-cell}
use Rattle.cut_steps.proofs.walk.SpanWalk.crossed_directions.Goals as goal

pub returns-then-not-walks : goal.returns-then-not-walks
returns-then-not-walks c =
    let a = c.args in
    let M = grid_of a.self.now.grid.width a.self.now.grid.height a.self.now.grid.cells.now in
    record { small = omega arith; bits = no_bits M (segment_of a.self.now.g) (at a.cell.x a.cell.y) (no_step M (segment_of a.self.now.g) (at a.cell.x a.cell.y) (sym c.walks.ensures ∙ not-true _ c.if-not-walks.true-raw)) }

pub returns : goal.returns
returns c = crossed-cell c.requires.crossed c.steps_onward.ensures refl
