-- total_order of IEEE 754-2019 (5.10) for doubles, over their bit patterns, NaNs among them: "widths rank by total_order" (demand 2). The letters are the clause's.
-- The crate `laws` proves that for the widths that check 7 lets pass it is the order of their bits, by which pass 3 ranks (WidthOrder). Assumes nothing.
use Rattle.std.specs.Prelude.{ℕ, ◌%◌, ◌^◌, Bool, true, false, not, ◌&&◌, ◌||◌, cond, leb}
use Rattle.std.specs.Bool.{beq}
use Rattle.std.specs.Float.{binary64}
use Rattle.std.specs.Float.Ieee.{of_bits, nan_bits, lt, eq}

-- ---- the parts of a pattern below 2 ^ 64

abbrev pub is_negative : ℕ → Bool
is_negative x = leb (2 ^ 63) x

-- of a NaN: the first digit behind the exponent's field is set in a quiet one and clear in a signaling one; the digits behind it are the payload
abbrev pub is_quiet : ℕ → Bool
is_quiet x = leb (2 ^ 51) (x % 2 ^ 52)

abbrev pub payload : ℕ → ℕ
payload x = x % 2 ^ 51

-- ---- the order: x stands before y or is y

-- a), b): of two numbers the lesser stands first. c): equal numbers are one datum, so that each stands before the other, but for the two zeros: -0 stands before +0
unfoldable pub numbers_in_order : ℕ → ℕ → Bool
unfolding lt eq of_bits
numbers_in_order x y =
    lt (of_bits binary64 x) (of_bits binary64 y) || (eq (of_bits binary64 x) (of_bits binary64 y) && (is_negative x || not (is_negative y)))

-- d) 3) ii), iii): two NaNs with the sign clear: signaling before quiet, then by the payload
abbrev pub nans_rise : ℕ → ℕ → Bool
nans_rise x y = not (is_quiet x) && is_quiet y || (beq (is_quiet x) (is_quiet y) && leb (payload x) (payload y))

-- d) 3): of two NaNs the one with the sign set stands first; of two with the sign set the order is the reverse
abbrev pub nans_in_order : ℕ → ℕ → Bool
nans_in_order x y = cond (is_negative x) (cond (is_negative y) (nans_rise y x) true) (cond (is_negative y) false (nans_rise x y))

-- d) 1), 2): a NaN with the sign set stands before every number, and one with the sign clear behind
unfoldable pub total_order : ℕ → ℕ → Bool
unfolding nan_bits numbers_in_order
total_order x y =
    cond (nan_bits binary64 x)
    (cond (nan_bits binary64 y) (nans_in_order x y) (is_negative x))
    (cond (nan_bits binary64 y) (not (is_negative y)) (numbers_in_order x y))
