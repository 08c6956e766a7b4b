-- `walk_column` meets its contract. The loop's invariant: the cut steps of the column's cells from the first to the one before m are visited (`Passing`). Assumes nothing.
use Prim.Native.Nat.{◌+◌}
use native.Mathlib.Omega.{arith}
use mathlib.Core.Path.{sym, ap, subst}
use Rattle.span_geometry.specs.Shapes.{segment_of}
use Rattle.cut_steps.specs.CutSteps.{cut_from}
use Rattle.cut_steps.specs.Columns.{cut_across, cell_in, cell_at}
use Rattle.cut_steps.specs.Walks.{walk_map}
use Rattle.cut_steps.proofs.Passing.{visited_as, passing-start, passing-more, passing-done, ready_at}
use Rattle.cut_steps.proofs.Walks.{cell_of_column, range-joined, range-few}
use Rattle.cut_steps.proofs.walk.walk_column.Goals as goal

pub loop-m-init : goal.loop-m-init
loop-m-init g c =
    let walk = c.args.walk.now in
    let r = c.near_range-range.result in
    passing-start g.met.V.StepVisitor.laws (walk_map walk) (cut_across (walk_map walk) (segment_of walk.g) walk.strip.columns c.args.k) 1 r.first (r.last + 1)

pub walk_cell-requires : goal.walk_cell-requires
walk_cell-requires g c =
    let walk = c.args.walk.now in
    let M = walk_map walk in
    let k = c.args.k in
    let r = c.near_range-range.result in
    let p = c.requires.asked in
    let near = c.near_range-range.ensures in
    let i = cell_in walk.strip.columns c.cell.ensures.x c.cell.ensures.y p.1.column (omega (arith, c.loop-m-test.true, near.inside, c.breadth-breadth.ensures)) in
    let R = ready_at g.met.V.StepVisitor.laws M (cut_across M (segment_of walk.g) walk.strip.columns k) 1 r.first (r.last + 1) c.loop-m.invariant
    (range-joined M (segment_of walk.g) walk.strip k c.breadth-breadth.ensures near) (range-few walk.strip r.first r.last p.0.narrow p.0.short c.breadth-breadth.ensures near.inside) c.requires.is_ready c.loop-m-test.true in
    record {
      asked = cell_of_column p.0 i.0 i.1;
      is_ready = subst (λ q. g.V.StepVisitor.ready M (cut_from M (segment_of walk.g) q) 1 c.loop-m.visitor) (sym (cell_at walk.strip.columns k c.loop-m.m c.cell.ensures.x c.cell.ensures.y)) R;
    }

pub loop-m-preserved : goal.loop-m-preserved
loop-m-preserved g c =
    let walk = c.args.walk.now in
    let M = walk_map walk in
    let k = c.args.k in
    let r = c.near_range-range.result in
    passing-more g.met.V.StepVisitor.laws M (cut_across M (segment_of walk.g) walk.strip.columns k) 1 r.first (r.last + 1) c.loop-m.invariant c.loop-m-test.true
    (visited_as g.met.V.StepVisitor.laws M (ap (cut_from M (segment_of walk.g)) (cell_at walk.strip.columns k c.loop-m.m c.cell.ensures.x c.cell.ensures.y)) c.walk_cell.ensures)

pub returns : goal.returns
returns g c =
    let walk = c.args.walk.now in
    let M = walk_map walk in
    let k = c.args.k in
    let r = c.near_range-range.result in
    let p = c.requires.asked in
    let near = c.near_range-range.ensures in
    visited_as g.met.V.StepVisitor.laws M (sym (range-joined M (segment_of walk.g) walk.strip k c.breadth-breadth.ensures near))
    (passing-done g.met.V.StepVisitor.laws M (cut_across M (segment_of walk.g) walk.strip.columns k) 1 r.first (r.last + 1) c.loop-m.invariant c.loop-m-test.false (range-few walk.strip r.first r.last p.0.narrow p.0.short c.breadth-breadth.ensures near.inside))
