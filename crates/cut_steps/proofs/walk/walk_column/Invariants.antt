-- `walk_column` meets its contract. The loop's invariant: the cut steps of the column's cells from the first to the one before m are visited (`Passing`). Assumes nothing.
use Rattle.span_geometry.specs.Shapes.{segment_of}
use Rattle.cut_steps.specs.Columns.{cut_across}
use Rattle.cut_steps.specs.Walks.{walk_map}
use Rattle.cut_steps.proofs.Passing.{Passing}
use Rattle.cut_steps.proofs.walk.walk_column.Given as goal

abbrev pub invariant-loop-m : goal.invariant-loop-m
invariant-loop-m g l =
    let walk = l.walk in
    Passing g.V.StepVisitor.visited (walk_map walk) (cut_across (walk_map walk) (segment_of walk.g) walk.strip.columns l.k) 1 l.initial.m l.m-end l.initial.visitor l.visitor l.m
