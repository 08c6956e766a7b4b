-- `faults::passing_terms` meets its contract. The invariant: the terms below i break no rule, and the ends are the latest of theirs. Assumes nothing.
use Prim.Native.Nat.{◌≤◌}
use Rattle.pool_faults.specs.Apart.{Faultless}
use Rattle.pool_faults.specs.Ends.{Latest}
use Rattle.pool_faults.proofs.faults.passing_terms.Given as goal

abbrev pub invariant-loop-i : goal.invariant-loop-i
invariant-loop-i l = (l.i ≤ l.count) × Faultless l.terms l.i × Latest l.terms l.i l.ends
