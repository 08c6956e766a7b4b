-- `apart::least_astray` meets its contract. The invariant: where no position was found, each term precedes the next along the keys that were passed. Assumes nothing.
use Prim.Native.Nat.{◌+◌, ◌≤◌}
use mathlib.Core.Path.{◌≡◌}
use lib.ListN.{length}
use Rattle.catalogue.specs.Terms.{term_count}
use Rattle.pool_faults.specs.Apart.{Following}
use Rattle.pool_faults.proofs.apart.least_astray.Given as goal

abbrev pub invariant-loop-pair : goal.invariant-loop-pair
invariant-loop-pair l = (l.found ≤ term_count l.terms) × (l.found ≡ term_count l.terms → Following l.terms l.keys (length l.yielded + 1))
