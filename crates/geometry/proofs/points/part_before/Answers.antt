-- `points::part_before` meets its contract: the test is the definition's. Assumes nothing.
use mathlib.Core.Path.{◌≡◌, sym, ap, ◌∙◌}
use mathlib.Core.Bool.{Bool, cond}
use lib.Ieee.{Float, binary64, eq, of_bits}
use Rattle.std.specs.Float.{float_clamp}
use Rattle.definitions.specs.Geometry.{float, clamp01}
use Rattle.geometry.proofs.Literals.{zero_is, one_is}
use Rattle.geometry.proofs.points.part_before.Goals as goal

-- n is the square of the length, t the answer where that is not 0
by_test : (n t : Float) {p : Bool} → eq n (of_bits binary64 0x0000000000000000) ≡ p → cond p (float 0) t ≡ cond (eq n (float 0)) (float 0) t
by_test n t e = ap (λ p. cond p (float 0) t) (sym e ∙ ap (λ z. eq n z) zero_is)

clamped : (t : Float) → float_clamp t (of_bits binary64 0x0000000000000000) (of_bits binary64 0x3FF0000000000000) ≡ clamp01 t
unfolding clamp01
clamped t = λ i. float_clamp t (zero_is i) (one_is i)

pub returns-then-n : goal.returns-then-n
returns-then-n c = zero_is ∙ by_test _ _ c.if-n.true

pub returns-else-n : goal.returns-else-n
returns-else-n c =
    c.clamp.ensures.value ∙ clamped _ ∙ by_test _ _ c.if-n.false
