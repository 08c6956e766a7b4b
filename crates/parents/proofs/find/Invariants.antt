-- `parents::find` meets its contract. The loop's invariant is `Finding`; the number reached falls with each turn, since a parent is no larger. Assumes nothing.
use Rattle.parents.proofs.Finding.{Finding}
use Rattle.parents.proofs.find.Given as goal

abbrev pub invariant-loop-p : goal.invariant-loop-p
invariant-loop-p l = Finding l.initial.parents l.from l.parents l.c l.p

abbrev pub decreases-loop-p : goal.decreases-loop-p
decreases-loop-p l = l.c
