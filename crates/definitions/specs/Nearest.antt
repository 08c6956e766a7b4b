-- The relation 'nearest, ties to the even significand' (IEEE 754-2019, roundTiesToEven) for the root of a whole number, apart from any way to compute it.
-- No real numbers here, so both sides are squared. The crate `laws` proves that it determines its result and that `hypot_of` meets it. Assumes nothing.
use Rattle.std.specs.Prelude.{◌≡◌, ℕ, ◌+◌, ◌-◌, ◌*◌, ◌/◌, ◌%◌, ◌^◌, ◌≤◌, cond, ltb}

-- How many of the smallest double, 2 ^ -1074, the double of bit pattern b is, for a pattern without its sign, below the infinity's:
-- 52 bits of fraction, and above them the exponent, which is 0 for the numbers without a hidden digit.
unfoldable pub pattern_magnitude : ℕ → ℕ
pattern_magnitude b = cond (ltb b (2 ^ 52)) b ((2 ^ 52 + b % 2 ^ 52) * 2 ^ (b / 2 ^ 52 - 1))

-- The root of s lies between the middles of b's double with the doubles below and above (b - 1 and b + 1): no double is nearer.
-- It is one of the two middles only where b is even: its last bit is the significand's.
pub record Nearest (s b : ℕ) : Type 0 where
  pub above_middle : (pattern_magnitude (b - 1) + pattern_magnitude b) * (pattern_magnitude (b - 1) + pattern_magnitude b) ≤ 4 * s
  pub below_middle : 4 * s ≤ (pattern_magnitude b + pattern_magnitude (b + 1)) * (pattern_magnitude b + pattern_magnitude (b + 1))
  pub low_tie : (pattern_magnitude (b - 1) + pattern_magnitude b) * (pattern_magnitude (b - 1) + pattern_magnitude b) ≡ 4 * s → b % 2 ≡ 0
  pub high_tie : 4 * s ≡ (pattern_magnitude b + pattern_magnitude (b + 1)) * (pattern_magnitude b + pattern_magnitude (b + 1)) → b % 2 ≡ 0
