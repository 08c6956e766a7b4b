-- `mark_spans` meets its contract. The loop's invariant: the cut steps of the spans passed are marked. Assumes nothing.
use Rattle.definitions.specs.Scan.{gather}
use Rattle.grid_steps.specs.Grids.{terrain_of}
use Rattle.cut_steps.specs.Marking.{Marked}
use Rattle.cut_steps.proofs.Spans.{cut_listed}
use Rattle.cut_steps.proofs.mark_spans.Given as goal

abbrev pub invariant-loop-span : goal.invariant-loop-span
invariant-loop-span l =
    let grid = l.grid in
    Marked (terrain_of grid) l.initial.masks l.masks (gather l.span-index (cut_listed grid.width grid.height grid.cells.now l.spans))
