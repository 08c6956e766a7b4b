-- Differences of naturals as whole numbers: equal ones, their products and differences, and their signs as comparisons of naturals, so that a statement on whole numbers
-- of either sign becomes one on naturals. By cases on the order. Assumes nothing.
use mathlib.Core.Path.{◌≡◌, sym, ap, ◌∙◌}
use mathlib.Core.Logic.{⊎_elim}
use mathlib.Core.Bool.{true}
use Prim.Native.Nat.{ℕ, suc, ◌+◌, ◌-◌, ◌*◌, ◌≤◌, ◌<◌}
use native.Mathlib.Nat.{add-mul, mul-add}
use native.Mathlib.Omega.{arith}
use lib.Dec.{leb, ltb}
use lib.IntN.{pos, negsuc, neg_ℤ, sub_ℕ, ◌+ℤ◌, ◌-ℤ◌, ◌*ℤ◌, +ℤ_idl}
use lib.Signed.{lt_z, non_neg}
use borrow.Author.Tests.{lt-ltb, le-ltb, le-leb, lt-leb}
use Rattle.definitions.specs.Spans.{diff, is_zero}
use Rattle.laws.specs.NumberLaws.Comparisons.{le_or_lt}
use Rattle.laws.specs.NumberLaws.WholeNumbers.{diff_is, diff-pos, diff_neg}

pub diff_eq : (m n j k : ℕ) → m + k ≡ j + n → diff m n ≡ diff j k
diff_eq m n j k e =
    ⊎_elim (λ h. diff-pos h ∙ ap pos (omega arith) ∙ sym (diff-pos {m = j} {n = k} (omega arith))) (λ h. diff_neg h ∙ ap negsuc (omega arith) ∙ sym (diff_neg {m = j} {n = k} (omega arith))) (le_or_lt n m)

-- c as a difference, and its negative
pub pos_is : (c m n : ℕ) → m ≡ c + n → pos c ≡ diff m n
pos_is c m n e = sym (diff-pos {m = m} {n = n} (omega arith) ∙ ap pos (omega arith))

pub neg_is : (c m n : ℕ) → n ≡ c + m → neg_ℤ (pos c) ≡ diff m n
neg_is c m n e = sym (+ℤ_idl (neg_ℤ (pos c))) ∙ diff_eq 0 c m n (omega arith)

-- ---- products

-- (m - n) (j - k), where neither is negative
square : (m n j k a b : ℕ) → m ≡ n + a → j ≡ k + b → m * j + n * k ≡ a * b + (m * k + n * j)
square m n j k a b e f =
    omega (arith, ap (λ x. x * j) e, add-mul n a j, ap (λ x. x * k) e, add-mul n a k, ap (λ x. a * x) f, mul-add a k b)

module _ (m n j k : ℕ) where
  abbrev same : ℕ
  same = m * j + n * k

  abbrev other : ℕ
  other = m * k + n * j

  pub diff-times : diff m n *ℤ diff j k ≡ diff same other
  diff-times = ⊎_elim (λ h. ⊎_elim (pp h) (pn h) (le_or_lt k j)) (λ h. ⊎_elim (np h) (nn h) (le_or_lt k j)) (le_or_lt n m)
    where
      pp : n ≤ m → k ≤ j → diff m n *ℤ diff j k ≡ diff same other
      pp h i = (λ t. diff-pos h t *ℤ diff-pos i t) ∙ pos_is ((m - n) * (j - k)) same other (square m n j k (m - n) (j - k) (omega arith) (omega arith))

      pn : n ≤ m → j < k → diff m n *ℤ diff j k ≡ diff same other
      pn h i = (λ t. diff-pos h t *ℤ diff_neg i t) ∙ neg_is ((m - n) * suc (k - suc j)) same other (square m n k j (m - n) (suc (k - suc j)) (omega arith) (omega arith))

      np : m < n → k ≤ j → diff m n *ℤ diff j k ≡ diff same other
      np h i =
          (λ t. diff_neg h t *ℤ diff-pos i t)
          ∙ neg_is (suc (n - suc m) * (j - k)) same other (omega (arith, square n m j k (suc (n - suc m)) (j - k) (omega arith) (omega arith)))

      nn : m < n → j < k → diff m n *ℤ diff j k ≡ diff same other
      nn h i =
          (λ t. diff_neg h t *ℤ diff_neg i t)
          ∙ pos_is (suc (n - suc m) * suc (k - suc j)) same other (omega (arith, square n m k j (suc (n - suc m)) (suc (k - suc j)) (omega arith) (omega arith)))

-- ---- sums and differences

sub_is : (m n : ℕ) → sub_ℕ m n ≡ diff m n
sub_is m n = sym (diff_is m n)

pub diff-plus : (m n j k : ℕ) → diff m n +ℤ diff j k ≡ diff (m + j) (n + k)
diff-plus m n j k = ⊎_elim (λ h. ⊎_elim (pp h) (pn h) (le_or_lt k j)) (λ h. ⊎_elim (np h) (nn h) (le_or_lt k j)) (le_or_lt n m)
  where
    pp : n ≤ m → k ≤ j → diff m n +ℤ diff j k ≡ diff (m + j) (n + k)
    pp h i = (λ t. diff-pos h t +ℤ diff-pos i t) ∙ pos_is (m - n + (j - k)) (m + j) (n + k) (omega arith)

    pn : n ≤ m → j < k → diff m n +ℤ diff j k ≡ diff (m + j) (n + k)
    pn h i = (λ t. diff-pos h t +ℤ diff_neg i t) ∙ sub_is (m - n) (suc (k - suc j)) ∙ diff_eq (m - n) (suc (k - suc j)) (m + j) (n + k) (omega arith)

    np : m < n → k ≤ j → diff m n +ℤ diff j k ≡ diff (m + j) (n + k)
    np h i = (λ t. diff_neg h t +ℤ diff-pos i t) ∙ sub_is (j - k) (suc (n - suc m)) ∙ diff_eq (j - k) (suc (n - suc m)) (m + j) (n + k) (omega arith)

    nn : m < n → j < k → diff m n +ℤ diff j k ≡ diff (m + j) (n + k)
    nn h i = (λ t. diff_neg h t +ℤ diff_neg i t) ∙ neg_is (suc (suc (n - suc m + (k - suc j)))) (m + j) (n + k) (omega arith)

pub diff_minus : (m n j k : ℕ) → diff m n -ℤ diff j k ≡ diff (m + k) (n + j)
diff_minus m n j k = ap (λ z. diff m n +ℤ z) turned ∙ diff-plus m n k j
  where
    turned : neg_ℤ (diff j k) ≡ diff k j
    turned = ⊎_elim (λ h. ap neg_ℤ (diff-pos h) ∙ neg_is (j - k) k j (omega arith)) (λ h. ap neg_ℤ (diff_neg h) ∙ pos_is (suc (k - suc j)) k j (omega arith)) (le_or_lt k j)

-- ---- signs

pub non_neg_diff : (m n : ℕ) → non_neg (diff m n) ≡ leb n m
non_neg_diff m n = ⊎_elim (λ h. ap non_neg (diff-pos h) ∙ sym (le-leb n m h)) (λ h. ap non_neg (diff_neg h) ∙ sym (lt-leb n m h)) (le_or_lt n m)

pub negative_diff : (m n : ℕ) → lt_z (diff m n) (pos 0) ≡ ltb m n
negative_diff m n =
    ⊎_elim (λ h. ap (λ z. lt_z z (pos 0)) (diff-pos h) ∙ le-ltb (m - n) 0 (omega arith) ∙ sym (le-ltb m n h)) (λ h. ap (λ z. lt_z z (pos 0)) (diff_neg h) ∙ sym (lt-ltb m n h)) (le_or_lt n m)

pub positive-diff : (m n : ℕ) → lt_z (pos 0) (diff m n) ≡ ltb n m
positive-diff m n =
    ⊎_elim (λ h. ap (lt_z (pos 0)) (diff-pos h) ∙ ⊎_elim (λ i. le-ltb 0 (m - n) (omega arith) ∙ sym (le-ltb n m i)) (λ i. lt-ltb 0 (m - n) (omega arith) ∙ sym (lt-ltb n m i)) (le_or_lt m n))
    (λ h. ap (lt_z (pos 0)) (diff_neg h) ∙ sym (le-ltb n m (omega arith))) (le_or_lt n m)

pub zero-diff : (m n : ℕ) → m ≡ n → is_zero (diff m n) ≡ true
zero-diff m n e =
    let none : m - n ≡ 0 = omega arith in
    ap is_zero (diff-pos {m = m} {n = n} (omega arith) ∙ ap pos none)
