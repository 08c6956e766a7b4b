-- `patterns::guess` meets its contract: no pattern is a NaN's, no NaN is asked for its bits, and each answer is twice a number of 53 digits, or four times.
-- Assumes nothing.
use Prim.Native.Nat.{ℕ, ◌+◌, ◌*◌, ◌^◌, ◌≤◌, ◌<◌}
use native.Mathlib.Nat.{mul-le-mul_left}
use native.Mathlib.Omega.{arith}
use mir.Syntax.{w64}
use mir.Val.{Fits}
use Rattle.laws.specs.FloatLaws.Patterns.{no_nan}
use Rattle.hypotenuse.proofs.patterns.guess.Goals as goal

-- d has 53 digits, and n is 0 or 1
module _ (d n : ℕ) (lo : 2 ^ 52 ≤ d) (hi : d < 2 ^ 53) (h : n ≤ 1) where
  at_most : 2 * d * n ≤ 2 * d * 1
  at_most = mul-le-mul_left (2 * d) h

  product-fits : Fits w64 (2 * d * n)
  product-fits = omega (arith, at_most)

  sum_fits : Fits w64 (2 * d + 2 * d * n)
  sum_fits = omega (arith, at_most)

  doubled : (2 ^ 53 ≤ 2 * d + 2 * d * n) × (2 * d + 2 * d * n < 2 ^ 55)
  doubled = (omega arith, omega (arith, at_most))

pub float_from_bits-x : goal.float_from_bits-x
float_from_bits-x c = no_nan c.args.larger (omega arith)

pub float_from_bits-y : goal.float_from_bits-y
float_from_bits-y c = no_nan c.args.smaller (omega arith)

pub overflow_add-result : goal.overflow_add-result
overflow_add-result c = sum_fits _ _ (omega (arith, c.significand-digits.ensures)) (omega (arith, c.significand-digits.ensures)) c.if-above-le1.true
