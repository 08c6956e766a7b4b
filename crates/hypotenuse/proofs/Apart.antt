-- Two magnitudes that are far apart: where the second is at most 2 ^ 25 units of the last place of the first, the nearest double is the first. With q digits at
-- the exponent k the sum of the squares is above the square of q by 2 ^ 50 square units at most, and that of the middle, q and a half, is above it by more than
-- q, which is 2 ^ 52 at least. Assumes nothing.
use mathlib.Core.Path.{◌≡◌, refl, sym, ap, ◌∙◌}
use mathlib.Core.Bool.{false}
use Prim.Native.Nat.{ℕ, ◌+◌, ◌-◌, ◌*◌, ◌/◌, ◌%◌, ◌^◌, ◌≤◌, ◌<◌}
use native.Mathlib.Nat.{le_trans, le_of_eq, one-mul, add_assoc, add_comm, add_left_comm, mul_assoc, mul_left_comm, mul-mul-mul_comm, mul-add, add-mul, mul-le-mul_right, mul-pos}
use native.Mathlib.Omega.{arith}
use lib.Pow.{pow-add, pow_pos}
use lib.Ieee.{binary64, units, nearest, of_bits}
use Rattle.definitions.specs.Hypotenuse.{root_of}
use Rattle.definitions.specs.Nearest.{pattern_magnitude}
use Rattle.laws.specs.NumberLaws.Comparisons.{compare_lt}
use Rattle.laws.specs.NumberLaws.Squares.{square_le}
use Rattle.laws.specs.FloatLaws.WholeRoot.{root_of_is}
use Rattle.laws.specs.FloatLaws.Patterns.{made, magnitude-normal}
use Rattle.laws.specs.FloatLaws.PatternOrder.{magnitude-le}

-- ---- the squares of q, of q + 1 and of twice the middle, in square units

pub square-out : (q Z : ℕ) → q * Z * (q * Z) ≡ q * q * (Z * Z)
square-out q Z = mul-mul-mul_comm q Z q Z

next_square : (q Z : ℕ) → (q + 1) * Z * ((q + 1) * Z) ≡ q * q * (Z * Z) + (q * (Z * Z) + q * (Z * Z)) + Z * Z
next_square q Z = simp (mul-add, add-mul, one-mul, mul_assoc, mul_left_comm, add_assoc, add_comm, add_left_comm) refl

middle-square : (q Z : ℕ) → (2 * q + 1) * Z * ((2 * q + 1) * Z) ≡ 4 * (q * q * (Z * Z)) + 4 * (q * (Z * Z)) + Z * Z
middle-square q Z =
    next_square (2 * q) Z
    ∙ ap (λ (z : ℕ). z * (Z * Z) + (2 * q * (Z * Z) + 2 * q * (Z * Z)) + Z * Z) (mul-mul-mul_comm 2 q 2 q)
    ∙ e (q * q * (Z * Z)) (q * (Z * Z)) (Z * Z) (mul_assoc 4 (q * q) (Z * Z)) (mul_assoc 2 q (Z * Z))
  where
    e : (a b c : ℕ) {a' b' : ℕ} → a' ≡ 4 * a → b' ≡ 2 * b → a' + (b' + b') + c ≡ 4 * a + 4 * b + c
    e a b c p r = omega arith

module _ (q k Y : ℕ) (lo : 2 ^ 52 ≤ q) (hi : q < 2 ^ 53) (small : Y ≤ 2 ^ 25 * 2 ^ k) where
  abbrev S : ℕ
  S = q * 2 ^ k * (q * 2 ^ k) + Y * Y

  small-square : Y * Y ≤ 2 ^ 50 * (2 ^ k * 2 ^ k)
  small-square = le_trans (square_le Y (2 ^ 25 * 2 ^ k) small) (le_of_eq (square-out (2 ^ 25) (2 ^ k)))

  large : 2 ^ 52 * (2 ^ k * 2 ^ k) ≤ q * (2 ^ k * 2 ^ k)
  large = mul-le-mul_right (2 ^ k * 2 ^ k) lo

  some : 0 < 2 ^ k * 2 ^ k
  some = mul-pos (pow_pos k) (pow_pos k)

  below_next : S < (q + 1) * 2 ^ k * ((q + 1) * 2 ^ k)
  below_next = omega (arith, small-square, large, some, next_square q (2 ^ k), square-out q (2 ^ k))

  below_middle_lem : 4 * S < (2 * q + 1) * 2 ^ k * ((2 * q + 1) * 2 ^ k)
  below_middle_lem = omega (arith, small-square, large, some, middle-square q (2 ^ k), square-out q (2 ^ k))

  unchanged : root_of S ≡ units binary64 false q k
  unchanged = root_of_is S q k lo hi (omega arith) below_next ∙ ap (λ o. units binary64 false (nearest q o) k) (compare_lt (4 * S) _ below_middle_lem)

-- ---- of two patterns

-- a pattern whose exponent is 27 below k has a magnitude of 2 ^ 25 units at most
small_of : (b k : ℕ) → 27 ≤ k → b / 2 ^ 52 + 27 ≤ k → pattern_magnitude b ≤ 2 ^ 25 * 2 ^ k
small_of b k h l =
    le_trans (magnitude-le b ((k - 26) * 2 ^ 52) (below b k l))
    (le_of_eq
    (magnitude-normal ((k - 26) * 2 ^ 52) (normal k h)
    ∙ (λ i. (2 ^ 52 + fraction k i) * 2 ^ exponent k i)
    ∙ sym (pow-add 2 52 (k - 27))
    ∙ ap (λ (z : ℕ). 2 ^ z) (sum k h)
    ∙ pow-add 2 25 k))
  where
    below : (b k : ℕ) → b / 2 ^ 52 + 27 ≤ k → b ≤ (k - 26) * 2 ^ 52
    below b k l = omega arith

    normal : (k : ℕ) → 27 ≤ k → 2 ^ 52 ≤ (k - 26) * 2 ^ 52
    normal k h = omega arith

    fraction : (k : ℕ) → (k - 26) * 2 ^ 52 % 2 ^ 52 ≡ 0
    fraction k = omega arith

    exponent : (k : ℕ) → (k - 26) * 2 ^ 52 / 2 ^ 52 - 1 ≡ k - 27
    exponent k = omega arith

    sum : (k : ℕ) → 27 ≤ k → 52 + (k - 27) ≡ 25 + k
    sum k h = omega arith

pub apart : (larger smaller : ℕ) → larger ≤ 1038 * 2 ^ 52 → 27 < larger / 2 ^ 52 - smaller / 2 ^ 52
    → of_bits binary64 larger ≡ root_of (pattern_magnitude larger * pattern_magnitude larger + pattern_magnitude smaller * pattern_magnitude smaller)
apart b s h gap =
    let k = b / 2 ^ 52 - 1 in
    let q = 2 ^ 52 + b % 2 ^ 52 in
    ap (of_bits binary64) (whole b gap)
    ∙ made q k (omega arith) (omega arith) (omega arith)
    ∙ sym (unchanged q k (pattern_magnitude s) (omega arith) (omega arith) (small_of s k (omega arith) (omega arith)))
    ∙ ap (λ (z : ℕ). root_of (z * z + pattern_magnitude s * pattern_magnitude s)) (sym (magnitude-normal b (omega arith)))
  where
    whole : (b : ℕ) → 27 < b / 2 ^ 52 - s / 2 ^ 52 → b ≡ (b / 2 ^ 52 - 1) * 2 ^ 52 + (2 ^ 52 + b % 2 ^ 52)
    whole b h = omega arith
