-- `walk_crossing` meets its contract. The loop's invariant: the cut steps of the cells before j are visited (`Passing`). Assumes nothing.
use Prim.Native.Nat.{◌+◌, ◌≤◌}
use Rattle.cut_steps.specs.Walks.{walk_map, across_steps}
use Rattle.cut_steps.proofs.Passing.{Passing}
use Rattle.cut_steps.proofs.walk.walk_crossing.Given as goal

abbrev pub invariant-loop-j : goal.invariant-loop-j
invariant-loop-j g l =
    (l.j ≤ 4) × Passing g.V.StepVisitor.visited (walk_map l.walk) (across_steps l.walk l.k) 1 l.here (l.here + 4) l.initial.visitor l.visitor (l.here + l.j)
