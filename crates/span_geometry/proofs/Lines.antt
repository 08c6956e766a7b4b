-- The line of a span between its endpoints: the number that `line_at` divides is not negative, so that `nat_of` cuts nothing off, and it is at most 2 ^ 27.
-- Where the line falls, what it has fallen is at most its first coordinate times the run. Assumes nothing.
use mathlib.Core.Path.{◌≡◌, sym, ap, ◌∙◌}
use mathlib.Core.Logic.{⊎_elim}
use Prim.Native.Nat.{ℕ, suc, ◌+◌, ◌-◌, ◌*◌, ◌≤◌, ◌<◌}
use native.Mathlib.Nat.{mul-le-mul}
use native.Mathlib.Omega.{arith}
use lib.IntN.{ℤ, pos, nat_abs, ◌+ℤ◌, ◌*ℤ◌}
use lib.Signed.{mag}
use Rattle.definitions.specs.Spans.{diff}
use Rattle.laws.specs.NumberLaws.Comparisons.{le_or_lt}
use Rattle.span_geometry.specs.Shapes.{max_pixel}
use Rattle.laws.specs.NumberLaws.WholeNumbers.{diff-pos, diff_neg, nat_abs_diff-product, nat_abs_sum}

-- what `line_at p u q v` divides by q - p, at t within the segment
abbrev pub risen : ℕ → ℕ → ℕ → ℕ → ℕ → ℤ
risen p u q v t = pos (u * (q - p)) +ℤ diff v u *ℤ diff t p

module _ (p u q v t : ℕ) (after : p ≤ t) (inside : t ≤ q) where
  rises : u ≤ v → risen p u q v t ≡ pos (u * (q - p) + (v - u) * (t - p))
  rises h = λ i. pos (u * (q - p)) +ℤ diff-pos h i *ℤ diff-pos after i

  falls : v < u → risen p u q v t ≡ pos (u * (q - p) - suc (u - suc v) * (t - p))
  falls h = (λ i. pos (u * (q - p)) +ℤ diff_neg h i *ℤ diff-pos after i) ∙ diff-pos (mul-le-mul fallen part)
    where
      fallen : suc (u - suc v) ≤ u
      fallen = omega arith

      part : t - p ≤ q - p
      part = omega arith

  pub risen_is : risen p u q v t ≡ pos (mag (risen p u q v t))
  risen_is = ⊎_elim (λ h. known (rises h)) (λ h. known (falls h)) (le_or_lt u v)
    where
      known : {z : ℤ} {n : ℕ} → z ≡ pos n → z ≡ pos (mag z)
      known e = e ∙ ap (λ (z : ℤ). pos (mag z)) (sym e)

pub start_in : (p : ℕ) {u q : ℕ} → u ≤ max_pixel → q ≤ max_pixel → u * (q - p) ≤ max_pixel * max_pixel
start_in p {u} {q} hu hq = mul-le-mul hu run
  where
    run : q - p ≤ max_pixel
    run = omega arith

pub risen_in : {p u q v t : ℕ} → u ≤ max_pixel → q ≤ max_pixel → v ≤ max_pixel → p ≤ max_pixel → t ≤ max_pixel → nat_abs (risen p u q v t) ≤ max_pixel * max_pixel + max_pixel * max_pixel
risen_in {p} {u} {q} {v} {t} hu hq hv hp ht = omega (arith, nat_abs_sum (pos (u * (q - p))) (diff v u *ℤ diff t p), start_in p hu hq, nat_abs_diff-product hv hu ht hp)
