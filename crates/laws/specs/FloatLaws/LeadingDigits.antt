-- The 53 leading binary digits of a number, which a double's significand keeps, and how many are dropped behind them. Whoever has 53 digits q, or fewer where none is dropped,
-- and a k with the number from q * 2 ^ k up to below (q + 1) * 2 ^ k, has them: k follows from the number's size. Assumes nothing.
use Rattle.std.specs.Prelude.{◌≡◌, ◌⊎◌, ℕ, suc, ◌+◌, ◌-◌, ◌*◌, ◌/◌, ◌^◌, ◌≤◌, ◌<◌}
use Rattle.std.proofs.Common.{sym, subst, inl, inr, lt_of_not-le, not-le_of_lt, lt_of_lt_of_le, le_trans, le_of_eq, le_refl, eq-zero-or-pos, div-lt_iff_lt-mul, div-mul-le_self, le-div_iff_mul-le, mul-le-mul_right, one-mul, add-one, arith, pow-add, pow_pos, pow_mono}
use Rattle.std.proofs.Math.Nat.{div-eq_of_lt-le}
use Rattle.std.specs.Float.Ieee.{size}
use Rattle.std.specs.Float.Ieee.Digits.{size-lt, size-le, size_reaches}

abbrev pub dropped : ℕ → ℕ
dropped n = size n - 53

abbrev pub kept : ℕ → ℕ
kept n = n / 2 ^ dropped n

-- q is all of 53 digits, or nothing was dropped behind it
abbrev pub Leading : ℕ → ℕ → Type 0
Leading q k = (2 ^ 52 ≤ q) ⊎ (k ≡ 0)

-- ---- the digits of n

pub kept_leading : (n : ℕ) → Leading (kept n) (dropped n)
kept_leading n = elim (eq-zero-or-pos (dropped n)) [
  | inl z ↦ inr z
  | inr h ↦ inl ((le-div_iff_mul-le (pow_pos (dropped n))).1 (le_trans (le_of_eq (sym (pow-add 2 52 (dropped n)))) (size_reaches n (52 + dropped n) (omega arith))))
]

pub kept_some : (n : ℕ) → 0 < n → 0 < kept n
kept_some n h =
    let z : 0 < size n = lt_of_not-le (λ (g : size n ≤ 0). not-le_of_lt (lt_of_lt_of_le (size-lt n) (pow_mono g)) h) in
    (le-div_iff_mul-le (pow_pos (dropped n))).1 (le_trans (le_of_eq (one-mul (2 ^ dropped n))) (size_reaches n (dropped n) (omega arith)))

pub kept-le : (n : ℕ) → kept n * 2 ^ dropped n ≤ n
kept-le n = div-mul-le_self n (2 ^ dropped n)

pub kept_next : (n : ℕ) → n < (kept n + 1) * 2 ^ dropped n
kept_next n = (div-lt_iff_lt-mul (pow_pos (dropped n))).0 (subst (λ (x : ℕ). kept n < x) (sym (add-one (kept n))) (le_refl (suc (kept n))))

-- ---- from q and k

module _ (n q k : ℕ) (hi : q < 2 ^ 53) (a : q * 2 ^ k ≤ n) (b : n < (q + 1) * 2 ^ k) where
  size-at_most : size n ≤ 53 + k
  size-at_most = size-le n (53 + k) (lt_of_lt_of_le b (le_trans (mul-le-mul_right (2 ^ k) (next q hi)) (le_of_eq (sym (pow-add 2 53 k)))))
    where
      next : (q : ℕ) → q < 2 ^ 53 → q + 1 ≤ 2 ^ 53
      next q h = omega arith

  size_above : 2 ^ 52 ≤ q → 52 + k < size n
  size_above lo = lt_of_not-le (λ (g : size n ≤ 52 + k). not-le_of_lt (lt_of_lt_of_le (size-lt n) (pow_mono g)) (le_trans (le_of_eq (pow-add 2 52 k)) (le_trans (mul-le-mul_right (2 ^ k) lo) a)))

  pub dropped_is : Leading q k → dropped n ≡ k
  dropped_is (inl lo) = exact (size n) k size-at_most (size_above lo)
    where
      exact : (z k : ℕ) → z ≤ 53 + k → 52 + k < z → z - 53 ≡ k
      exact z k h l = omega arith
  dropped_is (inr e) = none (size n) k size-at_most e
    where
      none : (z k : ℕ) → z ≤ 53 + k → k ≡ 0 → z - 53 ≡ k
      none z k h e = omega arith

  pub kept_is : n / 2 ^ k ≡ q
  kept_is = div-eq_of_lt-le (2 ^ k) a b
