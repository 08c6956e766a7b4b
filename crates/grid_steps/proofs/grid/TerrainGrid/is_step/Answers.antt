-- `grid_steps::is_step` meets its contract: each of the first two tests shows a cell of the four that is not walkable, and past them the last cell decides.
-- Assumes nothing.
use mathlib.Core.Path.{sym, ◌∙◌}
use mathlib.Core.Bool.{true≢false}
use Rattle.grid_steps.proofs.StepTests.{far-blocked, side-blocked, under-decides}
use Rattle.grid_steps.proofs.grid.TerrainGrid.is_step.Goals as goal
use Rattle.grid_steps.proofs.grid.TerrainGrid.is_step.Goals.{then-walks, else-walks}

pub returns-then-walks-2 : goal.returns-then-walks-2
returns-then-walks-2 c =
    let a = c.args in
    elim c.if-walks.branch [
      | then-walks w ↦
          c.walks-then-walks-2.ensures
          ∙ under-decides a.self.width a.self.height a.self.cells.now a.cell.x a.cell.y a.direction.dx a.direction.dy c.requires.nearby c.requires.inside c.requires.walks
          (sym c.walks.ensures ∙ w.if-walks.true) (sym w.walks-then-walks.ensures ∙ sym w.value-is ∙ c.if-walks-2.true)
      | else-walks w ↦ absurd (true≢false (sym c.if-walks-2.true ∙ w.value-is ∙ w.if-walks.false))
    ]

pub returns-else-walks-2 : goal.returns-else-walks-2
returns-else-walks-2 c =
    let a = c.args in
    c.if-walks-2.false
    ∙ (elim c.if-walks.branch [
      | then-walks w ↦
          side-blocked a.self.width a.self.height a.self.cells.now a.cell.x a.cell.y a.direction.dx a.direction.dy (sym w.walks-then-walks.ensures ∙ sym w.value-is ∙ c.if-walks-2.false)
      | else-walks w ↦
          far-blocked a.self.width a.self.height a.self.cells.now a.cell.x a.cell.y a.direction.dx a.direction.dy (sym c.walks.ensures ∙ w.if-walks.false)
    ])
