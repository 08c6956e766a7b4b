-- `cell::walks_south` meets its contract: a cell of the next row, if there is one. Assumes nothing.
use Prim.Native.Nat.{◌+◌}
use mathlib.Core.Path.{◌∙◌}
use borrow.Author.Tests.{le-ltb}
use Rattle.cut_steps.proofs.Cells.{below-grid}
use Rattle.cut_steps.proofs.cell.walks_south.Goals as goal

pub returns-else-cell-grid : goal.returns-else-cell-grid
returns-else-cell-grid c = let a = c.args in le-ltb (a.cell.y + 1) a.grid.height c.if-cell-grid.false ∙ below-grid a.grid.width a.grid.height a.grid.cells.now a.cell.x a.cell.y c.if-cell-grid.false
