-- `apart::take_terms` meets its contract. The invariant: the keys are those of the terms below i. Assumes nothing.
use Prim.Native.Nat.{◌≤◌}
use mathlib.Core.Path.{◌≡◌}
use lib.ListN.{length}
use Rattle.catalogue.specs.Terms.{term_count}
use Rattle.pool_faults.specs.Apart.{Keys}
use Rattle.pool_faults.proofs.apart.take_terms.Given as goal

abbrev pub invariant-loop-i : goal.invariant-loop-i
invariant-loop-i l =
    (l.i ≤ term_count l.terms) × Keys l.terms l.i l.part.low l.part.high l.keys l.taken × (length l.keys ≡ length l.initial.keys) × (length l.maps ≡ length l.initial.maps)
