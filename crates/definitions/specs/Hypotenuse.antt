-- The hypotenuse (SPECIFICATION 6): the double nearest to the exact root of the sum of squares, ties to the even significand,
-- as IEEE 754-2019 has `hypot` among its correctly rounded operations. Over whole numbers, by one comparison of squares. Assumes nothing.
-- `Nearest.antt` says the same as a relation.
use Prim.Native.Nat.{ℕ, zero, suc, ◌+◌, ◌-◌, ◌*◌, ◌/◌, ◌^◌, compare}
use Rattle.std.specs.Prelude.{Bool, false, cond, ◌&&◌, ◌||◌, leb, eqb, pos, Float}
use Rattle.std.specs.Float.{nan, inf, fin, binary64}
use Rattle.std.specs.Float.Ieee.{up, down, size, nearest, units}

-- one binary digit more of a root: r is twice the whole root of n / 4
unfoldable pub digit : ℕ → ℕ → ℕ
digit n r = cond (leb ((r + 1) * (r + 1)) n) (r + 1) r

-- the largest r with r * r ≤ n, for an n below 4 ^ d, digit by digit
unfoldable pub whole_root : ℕ → ℕ → ℕ
unfolding digit
whole_root zero n = 0
whole_root (suc d) n = digit n (2 * whole_root d (n / 4))

-- The double nearest to the root of s, where s counts squares of the smallest double, 2 ^ -2148. The root has half as many binary digits as s, rounded up.
-- The double keeps the 53 leading ones, q, which are the whole root of s / 4 ^ k, and drops k. Whether it goes up to q + 1 is how s compares with the square
-- of the middle between the two, (q + 1/2) * 2 ^ k, both sides times 4; in a tie it takes the even one.
unfoldable pub root_of : ℕ → Float
unfolding whole_root units size
root_of s =
    let k = (size s + 1) / 2 - 53 in
    let q = whole_root 53 (s / 4 ^ k) in
    units binary64 false (nearest q (compare (4 * s) ((2 * q + 1) * 2 ^ k * ((2 * q + 1) * 2 ^ k)))) k

-- how many of the smallest double, 2 ^ -1074, the magnitude of a finite double is. (0 for the others, which are always refused.)
unfoldable pub magnitude : Float → ℕ
magnitude nan = 0
magnitude (inf s) = 0
magnitude (fin s m e) = m * up e * 2 ^ 1074 / down e

unfoldable pub sum_of_squares : Float → Float → ℕ
unfolding magnitude
sum_of_squares x y = magnitude x * magnitude x + magnitude y * magnitude y

-- total over doubles. Where both are zero the result is +0, whatever their signs.
unfoldable pub hypot_of : Float → Float → Float
unfolding root_of sum_of_squares
hypot_of x y = root_of (sum_of_squares x y)

-- ---- the range and refusal 13

-- zero, or of magnitude from 2 ^ -64 to 2 ^ 15
unfoldable pub in_range : Float → Bool
unfolding magnitude
in_range nan = false
in_range (inf s) = false
in_range (fin s m e) = eqb (magnitude (fin s m e)) 0 || (leb (2 ^ 1010) (magnitude (fin s m e)) && leb (magnitude (fin s m e)) (2 ^ 1089))

-- what the operation answers: number 0 and the root, or number 13 and value 0.0
unfoldable pub hypot_number : Float → Float → ℕ
unfolding in_range
hypot_number x y = cond (in_range x && in_range y) 0 13

unfoldable pub hypot_value : Float → Float → Float
unfolding in_range hypot_of
hypot_value x y = cond (in_range x && in_range y) (hypot_of x y) (fin false 0 (pos 0))
