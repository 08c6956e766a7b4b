-- `root::single_steps` meets its contract. The invariant: the number root * root + rest is the one that the loop began with, and each turn makes the root at
-- most one larger. The measure is what is left of the four turns. Assumes nothing.
use native.Mathlib.Omega.{arith}
use Rattle.laws.specs.NumberLaws.Squares.{square_next}
use Rattle.hypotenuse.proofs.root.single_steps.Goals as goal

pub loop-preserved : goal.loop-preserved
loop-preserved c = omega (arith, square_next c.loop.root)
