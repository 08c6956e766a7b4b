-- Whole numbers of either sign: a difference of two naturals by their order, how large a difference, a product and a sum can be. By cases on the
-- signs. Assumes nothing.
use Rattle.std.specs.Prelude.{◌≡◌, refl, Bool, cond, ℕ, zero, suc, ◌+◌, ◌-◌, ◌*◌, ◌≤◌, ◌<◌, ℤ, pos, negsuc, neg_ℤ, nat_abs, ◌+ℤ◌, ◌-ℤ◌, ◌*ℤ◌}
use Rattle.std.proofs.Common.{sym, ap, ◌∙◌, subst, ⊎_elim, le_refl, mul-le-mul, arith, lt-ltb, le-ltb}
use Rattle.std.proofs.Math.Path.{subst⁻¹}
use Rattle.std.proofs.Math.Nat.{le-suc}
use Rattle.std.proofs.Math.IntN.{sub_ℕ}
use Rattle.std.specs.Int.Signed.{mag}
use Rattle.definitions.specs.Spans.{diff}
use Rattle.laws.specs.NumberLaws.Comparisons.{le_or_lt}

-- ---- the difference of two naturals

pub subℕ-pos : {m n : ℕ} → n ≤ m → sub_ℕ m n ≡ pos (m - n)
subℕ-pos {m} {n} h = ap (λ (t : Bool). cond t (negsuc (n - suc m)) (pos (m - n))) (le-ltb m n h)

pub subℕ_neg : {m n : ℕ} → m < n → sub_ℕ m n ≡ negsuc (n - suc m)
subℕ_neg {m} {n} h = ap (λ (t : Bool). cond t (negsuc (n - suc m)) (pos (m - n))) (lt-ltb m n h)

pub diff_is : (m n : ℕ) → diff m n ≡ sub_ℕ m n
diff_is m zero = ap pos (omega arith) ∙ sym (subℕ-pos {m = m} {n = zero} (omega arith))
diff_is m (suc n) = refl

pub diff-pos : {m n : ℕ} → n ≤ m → diff m n ≡ pos (m - n)
diff-pos {m} {n} h = diff_is m n ∙ subℕ-pos h

pub diff_neg : {m n : ℕ} → m < n → diff m n ≡ negsuc (n - suc m)
diff_neg {m} {n} h = diff_is m n ∙ subℕ_neg h

-- ---- magnitudes

pub nat_abs_neg : (z : ℤ) → nat_abs (neg_ℤ z) ≡ nat_abs z
nat_abs_neg (pos zero) = refl
nat_abs_neg (pos (suc n)) = refl
nat_abs_neg (negsuc n) = refl

pub mag≤natAbs : (z : ℤ) → mag z ≤ nat_abs z
mag≤natAbs (pos n) = le_refl n
mag≤natAbs (negsuc n) = le-suc n

subℕ-size : (m n k : ℕ) → m ≤ k → n ≤ k → nat_abs (sub_ℕ m n) ≤ k
subℕ-size m n k hm hn =
    ⊎_elim (λ h. subst⁻¹ (λ (z : ℤ). nat_abs z ≤ k) (subℕ-pos h) (omega arith)) (λ h. subst⁻¹ (λ (z : ℤ). nat_abs z ≤ k) (subℕ_neg h) (omega arith)) (le_or_lt n m)

pub nat_abs_diff : {m n k : ℕ} → m ≤ k → n ≤ k → nat_abs (diff m n) ≤ k
nat_abs_diff {m} {n} {k} hm hn = subst⁻¹ (λ (z : ℤ). nat_abs z ≤ k) (diff_is m n) (subℕ-size m n k hm hn)

pub nat_abs_product : (x y : ℤ) → nat_abs (x *ℤ y) ≡ nat_abs x * nat_abs y
nat_abs_product (pos a) (pos b) = refl
nat_abs_product (pos a) (negsuc b) = nat_abs_neg (pos (a * suc b))
nat_abs_product (negsuc a) (pos b) = nat_abs_neg (pos (suc a * b))
nat_abs_product (negsuc a) (negsuc b) = refl

-- of two differences of numbers up to b
pub nat_abs_diff-product : {j k m n b : ℕ} → j ≤ b → k ≤ b → m ≤ b → n ≤ b → nat_abs (diff j k *ℤ diff m n) ≤ b * b
nat_abs_diff-product {j} {k} {m} {n} {b} hj hk hm hn = subst⁻¹ (λ (size : ℕ). size ≤ b * b) (nat_abs_product (diff j k) (diff m n)) (mul-le-mul (nat_abs_diff hj hk) (nat_abs_diff hm hn))

pub nat_abs_sum : (x y : ℤ) → nat_abs (x +ℤ y) ≤ nat_abs x + nat_abs y
nat_abs_sum (pos a) (pos b) = le_refl (a + b)
nat_abs_sum (pos a) (negsuc b) = subℕ-size a (suc b) (a + suc b) (omega arith) (omega arith)
nat_abs_sum (negsuc a) (pos b) = subℕ-size b (suc a) (suc a + b) (omega arith) (omega arith)
nat_abs_sum (negsuc a) (negsuc b) = omega arith

pub nat_abs_difference : (x y : ℤ) → nat_abs (x -ℤ y) ≤ nat_abs x + nat_abs y
nat_abs_difference x y = subst (λ (n : ℕ). nat_abs (x -ℤ y) ≤ nat_abs x + n) (nat_abs_neg y) (nat_abs_sum x (neg_ℤ y))
