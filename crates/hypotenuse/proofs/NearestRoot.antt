-- The root of N squares of 2 ^ K, by the whole number r nearest to the root of N: where r is not above the root, r has its digits, and else the number below r
-- has them and the rest is above a half. There are no ties, since the square of a half more than a whole number is not whole. Assumes nothing.
use mathlib.Core.Path.{◌≡◌, sym, ap, ◌∙◌, subst}
use mathlib.Core.Logic.{inl, inr}
use mathlib.Core.Bool.{false}
use Prim.Native.Nat.{ℕ, ◌+◌, ◌-◌, ◌*◌, ◌^◌, ◌≤◌, ◌<◌}
use native.Mathlib.Nat.{mul_assoc, mul-mul-mul_comm, mul-le-mul_right, mul-lt-mul_of_pos_right, mul-pos}
use native.Mathlib.Numerals.{add-one}
use native.Mathlib.Omega.{arith}
use lib.Pow.{pow_pos}
use lib.Ieee.{binary64, units, nearest}
use Rattle.definitions.specs.Hypotenuse.{root_of}
use Rattle.laws.specs.NumberLaws.Comparisons.{le_or_lt, compare_lt, compare_gt}
use Rattle.laws.specs.NumberLaws.Squares.{square_next, square-twice}
use Rattle.laws.specs.FloatLaws.WholeRoot.{root_at, root_of_is}
use Rattle.hypotenuse.specs.Short.{NearestWhole}

-- q is the whole root of N
module _ (N q K : ℕ) (lo : 2 ^ 52 ≤ q) (hi : q < 2 ^ 53) (from : q * q ≤ N) (to : N < (q + 1) * (q + 1)) where
  abbrev S : ℕ
  S = N * (2 ^ K * 2 ^ K)

  some : 0 < 2 ^ K * 2 ^ K
  some = mul-pos (pow_pos K) (pow_pos K)

  out : (x : ℕ) → x * x * (2 ^ K * 2 ^ K) ≡ x * 2 ^ K * (x * 2 ^ K)
  out x = sym (mul-mul-mul_comm x (2 ^ K) x (2 ^ K))

  base : root_of S ≡ root_at S q K
  base =
      root_of_is S q K lo hi
      (subst (λ (z : ℕ). z ≤ S) (out q) (mul-le-mul_right (2 ^ K * 2 ^ K) from))
      (subst (λ (z : ℕ). S < z) (out (q + 1)) (mul-lt-mul_of_pos_right to some))

  -- twice the middle between q and q + 1, squared
  middle : (2 * q + 1) * (2 * q + 1) ≡ 4 * (q * q) + 4 * q + 1
  middle = omega (arith, square_next (2 * q), square-twice q)

  four : 4 * N * (2 ^ K * 2 ^ K) ≡ 4 * S
  four = mul_assoc 4 N (2 ^ K * 2 ^ K)

  went_down : N ≤ q * q + q → root_of S ≡ units binary64 false q K
  went_down h =
      let l : 4 * N < (2 * q + 1) * (2 * q + 1) = omega (arith, middle) in
      base ∙ ap (λ o. units binary64 false (nearest q o) K) (compare_lt (4 * S) _ (subst (λ (z : ℕ). z < (2 * q + 1) * 2 ^ K * ((2 * q + 1) * 2 ^ K)) four (subst (λ (z : ℕ). 4 * N * (2 ^ K * 2 ^ K) < z) (out (2 * q + 1)) (mul-lt-mul_of_pos_right l some))))

  went_up : q * q + q < N → root_of S ≡ units binary64 false (q + 1) K
  went_up h =
      let l : (2 * q + 1) * (2 * q + 1) < 4 * N = omega (arith, middle) in
      base
      ∙ ap (λ o. units binary64 false (nearest q o) K) (compare_gt (4 * S) _ (subst (λ (z : ℕ). (2 * q + 1) * 2 ^ K * ((2 * q + 1) * 2 ^ K) < z) four (subst (λ (z : ℕ). z < 4 * N * (2 ^ K * 2 ^ K)) (out (2 * q + 1)) (mul-lt-mul_of_pos_right l some))))
      ∙ ap (λ (z : ℕ). units binary64 false z K) (sym (add-one q))

above_half : (N q r K : ℕ) → r ≡ q + 1 → NearestWhole N r → N < r * r → root_of (N * (2 ^ K * 2 ^ K)) ≡ units binary64 false r K
above_half N q r K e n h =
    let s : r * r ≡ q * q + 2 * q + 1 = ap (λ (z : ℕ). z * z) e ∙ square_next q in
    went_up N q K (omega (arith, n.least)) (omega (arith, n.most)) (omega (arith, n.above)) (omega (arith, square_next q)) (omega (arith, n.above)) ∙ ap (λ (z : ℕ). units binary64 false z K) (sym e)

pub nearest-made : (N r K : ℕ) → NearestWhole N r → root_of (N * (2 ^ K * 2 ^ K)) ≡ units binary64 false r K
nearest-made N r K n = elim (le_or_lt (r * r) N) [
  | inl h ↦ went_down N r K (omega (arith, n.least)) n.most h (omega (arith, square_next r, n.below)) n.below
  | inr h ↦ above_half N (r - 1) r K (omega (arith, n.least)) n h
]
