-- A signed local holds bits, so an operation takes what the machine reads back from them. Here: when that is the number itself. Assumes nothing.
use mathlib.Core.Path.{◌≡◌, ◌∙◌, subst⁻¹}
use Prim.Native.Nat.{ℕ, ◌*◌, ◌≤◌, ◌<◌, ◌^◌}
use native.Mathlib.Nat.{le_trans, lt_of_le_of_lt}
use lib.Dec.{T, ltb, ltb→lt, lit<}
use lib.IntN.{ℤ, pos, nat_abs, ◌*ℤ◌}
use lib.Signed.{mag}
use mir.Syntax.{w64}
use mir.Val.{SFits, to_z, of_z}
use mir.Facts.{to_z-of_z, to_z_pos}
use Rattle.definitions.specs.Spans.{diff}
use Rattle.laws.specs.NumberLaws.WholeNumbers.{mag≤natAbs, nat_abs_diff-product}
use Rattle.span_geometry.specs.Shapes.{max_pixel}

-- a number of small magnitude fits
pub fits : {z : ℤ} {k : ℕ} → T (ltb k (2 ^ 63)) → nat_abs z ≤ k → SFits w64 z
fits {z} {k} t h = record { sfits = lt_of_le_of_lt (le_trans (mag≤natAbs z) h) (ltb→lt k (2 ^ 63) t) }

-- what a call gives, as its bits are read: y is what the call ensures of its result z
pub given : {y z : ℤ} → mag z < 2 ^ 63 → z ≡ y → to_z w64 (of_z w64 z) ≡ y
given h e = to_z-of_z {w = w64} (record { sfits = h }) ∙ e

-- a natural within the limits, as its bits are read
pub small : {n : ℕ} → n ≤ max_pixel → to_z w64 n ≡ pos n
small h = to_z_pos w64 (lt_of_le_of_lt h (lit< tt))

-- the product of two differences that calls give: p of j and k, q of m and n
module _ (j k m n : ℕ) {p q : ℤ} (p_in : mag p < 2 ^ 63) (p_is : p ≡ diff j k) (q_in : mag q < 2 ^ 63) (q_is : q ≡ diff m n) where
  pub product_is : to_z w64 (of_z w64 p) *ℤ to_z w64 (of_z w64 q) ≡ diff j k *ℤ diff m n
  product_is = λ i. given p_in p_is i *ℤ given q_in q_is i

  pub product_fits : j ≤ max_pixel → k ≤ max_pixel → m ≤ max_pixel → n ≤ max_pixel → SFits w64 (to_z w64 (of_z w64 p) *ℤ to_z w64 (of_z w64 q))
  product_fits hj hk hm hn = subst⁻¹ (SFits w64) product_is (fits {k = max_pixel * max_pixel} tt (nat_abs_diff-product hj hk hm hn))
