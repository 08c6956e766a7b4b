-- `anchored::mark_anchored` meets its contract. The invariant: the labels of the anchors passed are marked. Assumes nothing.
use native.Mathlib.Omega.{arith}
use Prim.Native.Nat.{◌<◌}
use mathlib.Core.Path.{refl, ap}
use lib.ListN.{get_or, length}
use borrow.Author.Rules.{rules}
use Rattle.context.proofs.AnchorSteps.{mark_none, mark_more}
use Rattle.context.proofs.Chunks.{inside, column_is, row_is, cell_is}
use Rattle.context.proofs.anchored.mark_anchored.Goals as goal

pub loop-anchor-init : goal.loop-anchor-init
loop-anchor-init c = mark_none _ _ _ _

pub anchor_cell-cell-requires : goal.anchor_cell-cell-requires
anchor_cell-cell-requires c =
    let i = inside c.args.anchors.now c.as_chunks.result.0.now c.as_chunks.ensures.front c.as_chunks.ensures.front_len c.loop-anchor.anchor-index c.loop-anchor-test.true in (
      c.requires.narrow,
      omega (arith, column_is c.args.anchors.now c.as_chunks.result.0.now c.as_chunks.ensures.front c.as_chunks.ensures.front_len c.loop-anchor.anchor-index c.loop-anchor-test.true, c.requires.column _ i),
      omega (arith, row_is c.args.anchors.now c.as_chunks.result.0.now c.as_chunks.ensures.front c.as_chunks.ensures.front_len c.loop-anchor.anchor-index c.loop-anchor-test.true, c.requires.row _ i),
    )

pub offset_bounds-labels-cell : goal.offset_bounds-labels-cell
offset_bounds-labels-cell c =
    let i = inside c.args.anchors.now c.as_chunks.result.0.now c.as_chunks.ensures.front c.as_chunks.ensures.front_len c.loop-anchor.anchor-index c.loop-anchor-test.true in
    let within : c.anchor_cell-cell.result < length c.args.labels.now = omega (arith, cell_is c.args.anchors.now c.as_chunks.result.0.now c.as_chunks.ensures.front c.as_chunks.ensures.front_len c.loop-anchor.anchor-index c.loop-anchor-test.true c.args.width c.anchor_cell-cell.ensures, c.requires.cell _ i) in
    search rules

pub bounds-labels-cell : goal.bounds-labels-cell
bounds-labels-cell c =
    let i = inside c.args.anchors.now c.as_chunks.result.0.now c.as_chunks.ensures.front c.as_chunks.ensures.front_len c.loop-anchor.anchor-index c.loop-anchor-test.true in
    omega (arith, cell_is c.args.anchors.now c.as_chunks.result.0.now c.as_chunks.ensures.front c.as_chunks.ensures.front_len c.loop-anchor.anchor-index c.loop-anchor-test.true c.args.width c.anchor_cell-cell.ensures, c.requires.cell _ i)

pub mark_label-requires : goal.mark_label-requires
mark_label-requires c =
    let i = inside c.args.anchors.now c.as_chunks.result.0.now c.as_chunks.ensures.front c.as_chunks.ensures.front_len c.loop-anchor.anchor-index c.loop-anchor-test.true in
    let same = ap (λ k. get_or c.args.labels.now k 0) (cell_is c.args.anchors.now c.as_chunks.result.0.now c.as_chunks.ensures.front c.as_chunks.ensures.front_len c.loop-anchor.anchor-index c.loop-anchor-test.true c.args.width c.anchor_cell-cell.ensures) in
    omega (arith, same, c.requires.label _ i, c.loop-anchor.auto.marks)

pub loop-anchor-preserved : goal.loop-anchor-preserved
loop-anchor-preserved c =
    mark_more _ c.args.width c.args.anchors.now _ c.loop-anchor.anchor-index c.loop-anchor.invariant (cell_is c.args.anchors.now c.as_chunks.result.0.now c.as_chunks.ensures.front c.as_chunks.ensures.front_len c.loop-anchor.anchor-index c.loop-anchor-test.true c.args.width c.anchor_cell-cell.ensures) refl c.mark_label.ensures
