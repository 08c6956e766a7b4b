-- `parents::alone` meets its contract: the numbers before c are their own parents. Assumes nothing.
use native.Mathlib.Omega.{arith}
use lib.Seq.{length-take-le}
use Rattle.parents.proofs.OwnParents.{all-own}
use Rattle.parents.proofs.alone.Goals as goal

pub loop-c-init : goal.loop-c-init
loop-c-init c = (length-take-le c.args.n c.args.parents.now c.requires.0, λ d h. absurd (omega arith))

pub returns : goal.returns
returns c =
    all-own _ _ _ c.requires.0 c.requires.1 c.loop-c.invariant.0 (λ d h. c.loop-c.invariant.1 d (omega (arith, h, c.loop-c-test.false, length-take-le c.args.n c.args.parents.now c.requires.0)))
