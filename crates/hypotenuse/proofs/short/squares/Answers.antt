-- `short::squares` meets its contract: no shift loses a digit. With the exponents at most `up` apart both numbers are below 2 ^ (17 + up), and the sum of their
-- squares below 2 ^ (35 + 2 * up). Assumes nothing.
use mathlib.Core.Path.{◌≡◌, sym, ap, ◌∙◌}
use Prim.Native.Nat.{ℕ, suc, ◌+◌, ◌-◌, ◌*◌, ◌/◌, ◌%◌, ◌^◌, ◌≤◌, ◌<◌}
use native.Mathlib.Omega.{arith}
use native.Mathlib.Nat.{lt_of_lt_of_le, pow-succ', two-mul}
use lib.Pow.{pow-add, pow_mono, shl_exact, shl_lt}
use Rattle.laws.specs.NumberLaws.Squares.{square_lt}
use Rattle.hypotenuse.specs.Short.{leading17, aligned, short_squares}
use Rattle.hypotenuse.proofs.short.squares.Goals as goal

leading_lt : (b : ℕ) → leading17 b < 2 ^ 17
leading_lt b = omega arith

module _ (b s up : ℕ) (near : b / 2 ^ 52 - s / 2 ^ 52 ≤ up) (few : up ≤ 14) where
  abbrev gap : ℕ
  gap = b / 2 ^ 52 - s / 2 ^ 52

  abbrev Q : ℕ
  Q = 2 ^ (17 + up)

  exact : leading17 b * 2 ^ gap % 2 ^ 64 ≡ aligned b s
  exact = shl_exact 17 gap 64 (leading_lt b) (omega arith)

  x_lt : aligned b s < Q
  x_lt = lt_of_lt_of_le (shl_lt 17 gap (leading_lt b)) (pow_mono (omega arith))

  y_lt : leading17 s < Q
  y_lt = lt_of_lt_of_le (leading_lt s) (pow_mono {i = 17} {j = 17 + up} (omega arith))

  two_squares : Q * Q + Q * Q ≡ 2 ^ (35 + 2 * up)
  two_squares =
      sym (two-mul (Q * Q))
      ∙ ap (λ (z : ℕ). 2 * z) (sym (pow-add 2 (17 + up) (17 + up)))
      ∙ sym (pow-succ' 2 (17 + up + (17 + up)))
      ∙ ap (λ (z : ℕ). 2 ^ z) (one_more up)
    where
      one_more : (up : ℕ) → suc (17 + up + (17 + up)) ≡ 35 + 2 * up
      one_more up = omega arith

  sum_lt : short_squares b s < 2 ^ (35 + 2 * up)
  sum_lt = omega (arith, square_lt (aligned b s) Q x_lt, square_lt (leading17 s) Q y_lt, two_squares)

  sum_fits : short_squares b s < 2 ^ 63
  sum_fits = lt_of_lt_of_le sum_lt (pow_mono {i = 35 + 2 * up} {j = 63} (omega arith))

  shifted : short_squares b s * 2 ^ (28 - 2 * up) % 2 ^ 64 ≡ short_squares b s * 2 ^ (28 - 2 * up)
  shifted = shl_exact (35 + 2 * up) (28 - 2 * up) 64 sum_lt (omega arith)

pub overflow_mul-result : goal.overflow_mul-result
overflow_mul-result c =
    let x : c.significand.result / 2 ^ 36 * 2 ^ (c.exponent.result - c.exponent-2.result) % 2 ^ 64 ≡ aligned c.args.larger c.args.smaller =
    (λ i. c.significand.ensures i / 2 ^ 36 * 2 ^ (c.exponent.ensures i - c.exponent-2.ensures i) % 2 ^ 64) ∙ exact _ _ _ c.requires.1 c.requires.2 in
    omega (arith, sum_fits _ _ _ c.requires.1 c.requires.2, ap (λ (z : ℕ). z * z) x)

pub overflow_mul-result-2 : goal.overflow_mul-result-2
overflow_mul-result-2 c =
    let y : c.significand-y.result / 2 ^ 36 ≡ leading17 c.args.smaller = ap (λ (z : ℕ). z / 2 ^ 36) c.significand-y.ensures in
    omega (arith, sum_fits _ _ _ c.requires.1 c.requires.2, ap (λ (z : ℕ). z * z) y)

pub overflow_add-result : goal.overflow_add-result
overflow_add-result c =
    let x : c.significand.result / 2 ^ 36 * 2 ^ (c.exponent.result - c.exponent-2.result) % 2 ^ 64 ≡ aligned c.args.larger c.args.smaller =
    (λ i. c.significand.ensures i / 2 ^ 36 * 2 ^ (c.exponent.ensures i - c.exponent-2.ensures i) % 2 ^ 64) ∙ exact _ _ _ c.requires.1 c.requires.2 in
    let y : c.significand-y.result / 2 ^ 36 ≡ leading17 c.args.smaller = ap (λ (z : ℕ). z / 2 ^ 36) c.significand-y.ensures in
    omega (arith, sum_fits _ _ _ c.requires.1 c.requires.2, ap (λ (z : ℕ). z * z) x, ap (λ (z : ℕ). z * z) y)

pub returns : goal.returns
returns c =
    let larger = c.args.larger in
    let smaller = c.args.smaller in
    let up = c.args.up in
    let x : c.significand.result / 2 ^ 36 * 2 ^ (c.exponent.result - c.exponent-2.result) % 2 ^ 64 ≡ aligned larger smaller =
    (λ i. c.significand.ensures i / 2 ^ 36 * 2 ^ (c.exponent.ensures i - c.exponent-2.ensures i) % 2 ^ 64) ∙ exact larger smaller up c.requires.1 c.requires.2 in
    let y : c.significand-y.result / 2 ^ 36 ≡ leading17 smaller = ap (λ (z : ℕ). z / 2 ^ 36) c.significand-y.ensures in
    (λ i. (x i * x i + y i * y i) * 2 ^ (28 - 2 * up) % 2 ^ 64) ∙ shifted larger smaller up c.requires.1 c.requires.2
