-- The quotient of a whole number of either sign rounded down, by the quotient rounded toward zero. By cases on the sign. Assumes nothing.
use Rattle.std.specs.Prelude.{◌≡◌, refl, cond, ℕ, zero, suc, ◌+◌, ◌-◌, ◌*◌, ◌/◌, ◌%◌, ◌≤◌, ◌<◌, ℤ, pos, negsuc, neg_ℤ, ◌-ℤ◌}
use Rattle.std.proofs.Common.{sym, ap, ◌∙◌, zero-le, le_of_suc-le-suc, zero-mul, suc-mul, div-add-mod', mod-lt, div-le_self, arith, le-ltb}
use Rattle.std.proofs.Math.Arith.{digits_div}
use Rattle.std.specs.Int.Signed.{mag, lt_z, quot_z, rem_z, shr_z}

-- the quotient of n by that of n + 1: the same where something remains of n + 1, else one less
div-before : (n d r : ℕ) → suc n % d ≡ suc r → 0 < d → suc n / d ≡ n / d
div-before n d r e h = sym (ap (λ (k : ℕ). k / d) split ∙ digits_div (suc n / d) less)
  where
    split : n ≡ suc n / d * d + r
    split = omega (arith, div-add-mod' (suc n) d, e)

    less : r < d
    less = omega (arith, mod-lt (suc n) h, e)

div-step : (n d : ℕ) → suc n % d ≡ 0 → 0 < d → suc n / d ≡ suc (n / d)
div-step n d e h = go (suc n / d) (omega (arith, div-add-mod' (suc n) d, e))
  where
    go : (q : ℕ) → suc n ≡ q * d → q ≡ suc (n / d)
    go zero f = omega (arith, f, zero-mul d)
    go (suc q) f = ap suc (sym (ap (λ (k : ℕ). k / d) split ∙ digits_div q less))
      where
        split : n ≡ q * d + (d - 1)
        split = omega (arith, f, suc-mul q d)

        less : d - 1 < d
        less = omega arith

pub quot_z_down : (z : ℤ) (d : ℕ) → 0 < d → cond (lt_z (rem_z z (pos d)) (pos 0)) (quot_z z (pos d) -ℤ pos 1) (quot_z z (pos d)) ≡ shr_z z d
quot_z_down (pos n) d h = ap (λ t. cond t (pos (n / d) -ℤ pos 1) (pos (n / d))) (le-ltb (n % d) 0 zero-le)
quot_z_down (negsuc n) d h = go (suc n % d) refl
  where
    go : (r : ℕ) → suc n % d ≡ r → cond (lt_z (neg_ℤ (pos r)) (pos 0)) (quot_z (negsuc n) (pos d) -ℤ pos 1) (quot_z (negsuc n) (pos d)) ≡ negsuc (n / d)
    go zero e = ap (λ (k : ℕ). neg_ℤ (pos k)) (div-step n d e h)
    go (suc r) e = ap (λ (k : ℕ). neg_ℤ (pos k) -ℤ pos 1) (div-before n d r e h) ∙ one_less (n / d)
      where
        one_less : (k : ℕ) → neg_ℤ (pos k) -ℤ pos 1 ≡ negsuc k
        one_less zero = refl
        one_less (suc k) = ap negsuc (omega arith)

pub mag_quot_z : (z : ℤ) (d : ℕ) → mag (quot_z z (pos d)) ≤ mag z
mag_quot_z (pos n) d = div-le_self n d
mag_quot_z (negsuc n) d = go (suc n / d) (div-le_self (suc n) d)
  where
    go : (q : ℕ) → q ≤ suc n → mag (neg_ℤ (pos q)) ≤ n
    go zero h = zero-le
    go (suc q) h = le_of_suc-le-suc h
