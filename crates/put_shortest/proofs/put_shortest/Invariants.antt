-- `put_shortest::put_shortest` meets its contract. The loop's invariant is `Shortening`; the measure is what is left. Assumes nothing.
use Rattle.put_shortest.proofs.Writing.{Shortening}
use Rattle.put_shortest.proofs.put_shortest.Given as goal

abbrev pub invariant-loop-left : goal.invariant-loop-left
invariant-loop-left l = Shortening l.initial.w l.n l.w l.left

abbrev pub decreases-loop-left : goal.decreases-loop-left
decreases-loop-left l = l.left
