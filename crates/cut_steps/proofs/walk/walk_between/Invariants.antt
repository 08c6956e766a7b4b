-- `walk_between` meets its contract. The loop's invariant: the cut steps of the columns, or rows, from the first to the one before k are visited (`Passing`), and `before`
-- and `here` are the first places past the line in the one before k and in k. Assumes nothing.
use Prim.Native.Nat.{◌-◌}
use Rattle.definitions.specs.Limits.{max_side}
use Rattle.line_crossings.specs.Crossings.{Crossing, Close}
use Rattle.cut_steps.specs.Walks.{walk_map, column_steps}
use Rattle.cut_steps.proofs.Passing.{Passing}
use Rattle.cut_steps.proofs.walk.walk_between.Given as goal

abbrev pub invariant-loop-k : goal.invariant-loop-k
invariant-loop-k g l =
    Passing g.V.StepVisitor.visited (walk_map l.walk) (column_steps l.walk) max_side l.from l.to l.initial.visitor l.visitor l.k
    × Crossing l.strip l.tie (l.k - 1) l.before.first l.before.rest × Crossing l.strip l.tie l.k l.here.first l.here.rest × Close l.before.first l.here.first
