-- `walk_cell` meets its contract: a cell that is not near has no cut step, and of the others `cut_directions` says which are cut. Assumes nothing.
use mathlib.Core.Path.{sym}
use borrow.Author.Tests.{not-true}
use Rattle.definitions.specs.Grid.{at}
use Rattle.span_geometry.specs.Shapes.{segment_of}
use Rattle.cut_steps.specs.Walks.{walk_map}
use Rattle.cut_steps.proofs.Marks.{no_cut}
use Rattle.cut_steps.proofs.Passing.{visited_none}
use Rattle.cut_steps.proofs.walk.walk_cell.Goals as goal

pub returns-then-not-is_near : goal.returns-then-not-is_near
returns-then-not-is_near g c =
    let a = c.args in
    let walk = a.walk.now in
    let none = c.is_near.ensures.where_false (not-true _ c.if-not-is_near.true-raw) in
    visited_none g.met.V.StepVisitor.laws (walk_map walk) 1 a.visitor.now (sym (no_cut (walk_map walk) (segment_of walk.g) (at a.cell.x a.cell.y) none.bits))

pub returns : goal.returns
returns g c = c.visit.ensures
