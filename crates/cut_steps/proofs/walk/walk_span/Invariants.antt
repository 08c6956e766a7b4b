-- `walk_span` meets its contract. The loop's invariant: the cut steps of the parts before k are visited (`Passing`). Assumes nothing.
use Prim.Native.Nat.{◌-◌}
use Rattle.definitions.specs.Limits.{max_side}
use Rattle.cut_steps.specs.Walks.{walk_map, column_steps}
use Rattle.cut_steps.proofs.Passing.{Passing}
use Rattle.cut_steps.proofs.walk.walk_span.Given as goal

abbrev pub invariant-loop-k : goal.invariant-loop-k
invariant-loop-k g l =
    Passing g.V.StepVisitor.visited (walk_map l.walk) (column_steps l.walk) max_side l.parts.first l.parts.end l.initial.visitor l.visitor l.k

abbrev pub decreases-loop-k : goal.decreases-loop-k
decreases-loop-k g l = l.parts.end - l.k
