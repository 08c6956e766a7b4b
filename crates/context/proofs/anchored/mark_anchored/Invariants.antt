-- `anchored::mark_anchored` meets its contract. The invariant: the labels of the anchors passed are marked. Assumes nothing.
use mathlib.Core.Path.{◌≡◌}
use Rattle.context.specs.Anchors.{anchor_cells, mark_cells}
use Rattle.context.proofs.anchored.mark_anchored.Given as goal

abbrev pub invariant-loop-anchor : goal.invariant-loop-anchor
invariant-loop-anchor l = l.marks ≡ mark_cells l.labels l.initial.marks (anchor_cells l.width l.anchors l.anchor-index)
