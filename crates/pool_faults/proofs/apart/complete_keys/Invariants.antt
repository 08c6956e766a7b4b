-- `apart::complete_keys` meets its contract. The invariant: each key has the position that it had. Assumes nothing.
use Rattle.pool_faults.specs.Apart.{SamePositions}
use Rattle.pool_faults.proofs.apart.complete_keys.Given as goal

abbrev pub invariant-loop-key : goal.invariant-loop-key
invariant-loop-key l = SamePositions l.initial.keys l.keys
