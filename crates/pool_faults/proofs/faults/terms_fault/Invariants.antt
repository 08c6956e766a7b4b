-- `faults::terms_fault` meets its contract. The invariant: the terms below i break no rule. Assumes nothing.
use Prim.Native.Nat.{◌≤◌}
use Rattle.catalogue.specs.Terms.{term_count}
use Rattle.pool_faults.specs.Apart.{Faultless}
use Rattle.pool_faults.proofs.faults.terms_fault.Given as goal

abbrev pub invariant-loop-i : goal.invariant-loop-i
invariant-loop-i l = (l.i ≤ term_count l.terms) × Faultless l.terms l.i
