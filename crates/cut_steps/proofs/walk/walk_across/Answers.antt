-- `walk_across` meets its contract: without a change of sides, or where there is no such cell, there is nothing to visit, and else the visitor says which of its changes
-- are of cut steps. Assumes nothing.
use mathlib.Core.Bool.{cond}
use mathlib.Core.Path.{sym, subst, refl, ap, ◌∙◌}
use Rattle.span_geometry.specs.Shapes.{segment_of}
use Rattle.cut_steps.specs.Walks.{walk_map}
use Rattle.cut_steps.proofs.Across.{is_placed_as, is_placed, not_placed, placed_cell, none_there, one_there, across-crossed, unchanged}
use Rattle.cut_steps.proofs.Passing.{visited_none, visited_as}
use Rattle.cut_steps.proofs.Walks.{cell_of_column}
use Rattle.cut_steps.proofs.walk.walk_across.Goals as goal

pub returns-then-changes-eq0 : goal.returns-then-changes-eq0
returns-then-changes-eq0 g c =
    let a = c.args in
    let walk = a.walk in
    visited_none g.met.V.StepVisitor.laws (walk_map walk) 1 a.visitor.now
    (unchanged walk.grid.width walk.grid.height walk.grid.cells.now (segment_of walk.g) walk.strip a.k a.beyond c.requires.changes c.if-changes-eq0.true)

pub returns-in_default : goal.returns-in_default
returns-in_default g c =
    let a = c.args in
    let walk = a.walk in
    let not_in = is_placed_as walk.strip walk.grid.width walk.grid.height a.beyond c.breadth.ensures refl (not_placed _ _ c.place_before.ensures c.in_default.not-Some) in
    visited_none g.met.V.StepVisitor.laws (walk_map walk) 1 a.visitor.now (sym (none_there (walk_map walk) (segment_of walk.g) walk.strip a.k a.beyond not_in))

pub crossed_directions-directions-requires : goal.crossed_directions-directions-requires
crossed_directions-directions-requires g c =
    let a = c.args in
    let walk = a.walk in
    let found = is_placed _ _ _ c.place_before.ensures c.in-Some.is in
    let x = c.cell-cell.ensures.x ∙ ap (λ m. cond walk.strip.columns a.k m) found.1 in
    let y = c.cell-cell.ensures.y ∙ ap (λ m. cond walk.strip.columns m a.k) found.1 in
    let p = placed_cell a.beyond c.requires.asked.1 c.breadth.ensures refl found.0 x y in
    record {
      asked = cell_of_column c.requires.asked.0 p.in_x p.in_y;
      crossed = across-crossed (segment_of walk.g) walk.strip a.k a.beyond c.requires.changes p.back x y;
      is_ready = subst (λ l. g.V.StepVisitor.ready (walk_map walk) l 1 a.visitor.now) (sym (one_there (walk_map walk) (segment_of walk.g) walk.strip a.k a.beyond p.is_in x y)) c.requires.is_ready;
    }

pub visit-requires : goal.visit-requires
visit-requires g c =
    let a = c.args in
    let walk = a.walk in
    let found = is_placed _ _ _ c.place_before.ensures c.in-Some.is in
    let x = c.cell-cell.ensures.x ∙ ap (λ m. cond walk.strip.columns a.k m) found.1 in
    let y = c.cell-cell.ensures.y ∙ ap (λ m. cond walk.strip.columns m a.k) found.1 in
    let p = placed_cell a.beyond c.requires.asked.1 c.breadth.ensures refl found.0 x y in
    record {
      asked = cell_of_column c.requires.asked.0 p.in_x p.in_y;
      directions = c.crossed_directions-directions.ensures;
      is_ready = subst (λ l. g.V.StepVisitor.ready (walk_map walk) l 1 a.visitor.now) (sym (one_there (walk_map walk) (segment_of walk.g) walk.strip a.k a.beyond p.is_in x y)) c.requires.is_ready;
    }

pub returns : goal.returns
returns g c =
    let a = c.args in
    let walk = a.walk in
    let found = is_placed _ _ _ c.place_before.ensures c.in-Some.is in
    let x = c.cell-cell.ensures.x ∙ ap (λ m. cond walk.strip.columns a.k m) found.1 in
    let y = c.cell-cell.ensures.y ∙ ap (λ m. cond walk.strip.columns m a.k) found.1 in
    let p = placed_cell a.beyond c.requires.asked.1 c.breadth.ensures refl found.0 x y in
    visited_as g.met.V.StepVisitor.laws (walk_map walk) (one_there (walk_map walk) (segment_of walk.g) walk.strip a.k a.beyond p.is_in x y) c.visit.ensures
