-- The squares of two doubles of 17 digits at most: with U the unit of the 17th digit of the smaller, they are whole numbers of U * U, and U * U is a power of
-- two times the square of the root's unit. Assumes nothing.
use mathlib.Core.Path.{◌≡◌, sym, ap, ◌∙◌}
use Prim.Native.Nat.{ℕ, ◌+◌, ◌-◌, ◌*◌, ◌/◌, ◌%◌, ◌^◌, ◌≤◌}
use native.Mathlib.Nat.{add-mul, mul_assoc, mul-mul-mul_comm}
use native.Mathlib.Omega.{arith}
use lib.Pow.{pow-add}
use Rattle.definitions.specs.Nearest.{pattern_magnitude}
use Rattle.laws.specs.FloatLaws.Patterns.{magnitude-normal}
use Rattle.hypotenuse.specs.Short.{leading17, aligned, short_squares}

-- a pattern of 17 digits at most
module _ (b : ℕ) (normal : 2 ^ 52 ≤ b) (few : b % 2 ^ 36 ≡ 0) where
  digits : 2 ^ 52 + b % 2 ^ 52 ≡ leading17 b * 2 ^ 36
  digits = omega arith

  magnitude-short : pattern_magnitude b ≡ leading17 b * 2 ^ 36 * 2 ^ (b / 2 ^ 52 - 1)
  magnitude-short = magnitude-normal b normal ∙ ap (λ (z : ℕ). z * 2 ^ (b / 2 ^ 52 - 1)) digits

module _ (b s top up : ℕ) (normal : 2 ^ 52 ≤ s) (order : s ≤ b) (few-b : b % 2 ^ 36 ≡ 0) (few-s : s % 2 ^ 36 ≡ 0) (high : b / 2 ^ 52 ≤ top) (up_is : up ≡ top - s / 2 ^ 52) (up_le : up ≤ 14) where
  abbrev low : ℕ
  low = s / 2 ^ 52

  abbrev gap : ℕ
  gap = b / 2 ^ 52 - low

  abbrev U : ℕ
  U = 2 ^ 36 * 2 ^ (low - 1)

  abbrev Z : ℕ
  Z = 2 ^ (top - 1)

  exponent : b / 2 ^ 52 - 1 ≡ gap + (low - 1)
  exponent = omega arith

  larger_is : pattern_magnitude b ≡ aligned b s * U
  larger_is =
      magnitude-short b (omega arith) few-b
      ∙ ap (λ (z : ℕ). leading17 b * 2 ^ 36 * 2 ^ z) exponent
      ∙ ap (λ (z : ℕ). leading17 b * 2 ^ 36 * z) (pow-add 2 gap (low - 1))
      ∙ mul-mul-mul_comm (leading17 b) (2 ^ 36) (2 ^ gap) (2 ^ (low - 1))

  smaller_is : pattern_magnitude s ≡ leading17 s * U
  smaller_is = magnitude-short s normal few-s ∙ mul_assoc (leading17 s) (2 ^ 36) (2 ^ (low - 1))

  exponents : 36 + (low - 1) + (36 + (low - 1)) ≡ 28 - 2 * up + 44 + (top - 1 + (top - 1))
  exponents = omega arith

  unit : U * U ≡ 2 ^ (28 - 2 * up) * 2 ^ 44 * (Z * Z)
  unit =
      (λ i. sym (pow-add 2 36 (low - 1)) i * sym (pow-add 2 36 (low - 1)) i)
      ∙ sym (pow-add 2 (36 + (low - 1)) (36 + (low - 1)))
      ∙ ap (λ (z : ℕ). 2 ^ z) exponents
      ∙ pow-add 2 (28 - 2 * up + 44) (top - 1 + (top - 1))
      ∙ (λ i. pow-add 2 (28 - 2 * up) 44 i * pow-add 2 (top - 1) (top - 1) i)

  sum_of : (x y : ℕ) → x * U * (x * U) + y * U * (y * U) ≡ (x * x + y * y) * (U * U)
  sum_of x y = (λ i. mul-mul-mul_comm x U x U i + mul-mul-mul_comm y U y U i) ∙ sym (add-mul (x * x) (y * y) (U * U))

  regroup : (n p q r : ℕ) → n * (p * q * r) ≡ n * p * q * r
  regroup n p q r = sym (mul_assoc n (p * q) r) ∙ ap (λ (z : ℕ). z * r) (sym (mul_assoc n p q))

  pub squares-are : pattern_magnitude b * pattern_magnitude b + pattern_magnitude s * pattern_magnitude s ≡ short_squares b s * 2 ^ (28 - 2 * up) * 2 ^ 44 * (Z * Z)
  squares-are =
      (λ i. larger_is i * larger_is i + smaller_is i * smaller_is i)
      ∙ sum_of (aligned b s) (leading17 s)
      ∙ ap (λ (z : ℕ). short_squares b s * z) unit
      ∙ regroup (short_squares b s) (2 ^ (28 - 2 * up)) (2 ^ 44) (Z * Z)
