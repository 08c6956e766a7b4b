-- `answer_of` meets its contract: what the answer is says its number and its value, and no value is a NaN. Assumes nothing.
use mathlib.Core.Path.{◌≡◌, sym, ap, ◌∙◌, subst}
use mathlib.Core.Bool.{not}
use Prim.Native.Nat.{ℕ}
use lib.Dec.{T}
use lib.Ieee.{Float, binary64, is_nan, of_bits, to_bits}
use Rattle.definitions.specs.Hypotenuse.{hypot_number, hypot_value}
use Rattle.laws.specs.FloatLaws.Hypotenuse.{hypot_value-clear}
use Rattle.hypotenuse_replay.specs.Lines.{number_of_bits, root_of_bits}
use Rattle.hypotenuse_replay.proofs.answer_of.Goals as goal

pub float_to_bits-result : goal.float_to_bits-result
unfolding is_nan
float_to_bits-result c =
    let x : ℕ = c.args.x in
    let y : ℕ = c.args.y in
    let value_is : c.in-Some.value ≡ hypot_value (of_bits binary64 x) (of_bits binary64 y) = c.in-Some.ensures.1 ∙ (λ i. hypot_value (c.double.ensures i) (c.double-2.ensures i)) in
    subst (λ (v : Float). T (not (is_nan v))) (sym (value_is ∙ (hypot_value-clear (of_bits binary64 x) (of_bits binary64 y)).2)) tt

pub returns-in-Some : goal.returns-in-Some
unfolding number_of_bits root_of_bits
returns-in-Some c = (
  c.in-Some.ensures.0 ∙ (λ i. hypot_number (c.double.ensures i) (c.double-2.ensures i)),
  ap (to_bits binary64) (c.in-Some.ensures.1 ∙ (λ i. hypot_value (c.double.ensures i) (c.double-2.ensures i))),
)

pub returns-in-None : goal.returns-in-None
unfolding to_bits number_of_bits root_of_bits
returns-in-None c = (
  c.number.ensures ∙ c.in-None.ensures.0 ∙ (λ i. hypot_number (c.double.ensures i) (c.double-2.ensures i)),
  ap (to_bits binary64) (c.in-None.ensures.1 ∙ (λ i. hypot_value (c.double.ensures i) (c.double-2.ensures i))),
)
