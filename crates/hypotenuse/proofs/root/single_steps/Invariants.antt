-- `root::single_steps` meets its contract. The invariant: the number root * root + rest is the one that the loop began with, and each turn makes the root at
-- most one larger. The measure is what is left of the four turns. Assumes nothing.
use mathlib.Core.Path.{◌≡◌}
use Prim.Native.Nat.{◌+◌, ◌-◌, ◌*◌, ◌≤◌}
use Rattle.hypotenuse.proofs.root.single_steps.Given as goal

abbrev pub invariant-loop : goal.invariant-loop
invariant-loop l = (l.root * l.root + l.rest ≡ l.initial.root * l.initial.root + l.initial.rest) × (l.root ≤ l.initial.root + l.counter) × (l.counter ≤ 4)

abbrev pub decreases-loop : goal.decreases-loop
decreases-loop l = 4 - l.counter
