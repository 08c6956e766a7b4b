-- `along` meets its contract: differences are at most 8,192 in size, so that products are at most 2^26 and the sum at most 2^27. Assumes nothing.
use mathlib.Core.Path.{◌≡◌, refl, ap, ◌∙◌, subst⁻¹}
use mathlib.Core.Bool.{Bool, cond}
use Prim.Native.Nat.{zero, suc, ◌+◌, ◌*◌, ◌≤◌, ◌<◌, ◌^◌}
use native.Mathlib.Nat.{le_trans, lt_of_le_of_lt}
use native.Mathlib.Omega.{arith}
use lib.Dec.{T, lit<}
use lib.IntN.{ℤ, pos, negsuc, nat_abs, ◌+ℤ◌, ◌*ℤ◌}
use lib.Signed.{mag, non_neg}
use borrow.Author.Tests.{le-leb}
use mir.Syntax.{w64}
use mir.Val.{Fits, SFits, to_z, of_z}
use mir.Facts.{to_z-of_z}
use Rattle.std.specs.Int.{int_max}
use Rattle.definitions.specs.Spans.{diff, nat_of}
use Rattle.laws.specs.NumberLaws.WholeNumbers.{nat_abs_diff-product, nat_abs_sum}
use Rattle.span_geometry.specs.declared.PixelPosition.{PixelPosition}
use Rattle.span_geometry.specs.declared.Segment.{Segment}
use Rattle.span_geometry.specs.Shapes.{max_pixel, InLimits}
use Rattle.span_geometry.proofs.Signed.{fits, given, product_is, product_fits}
use Rattle.exact_squares.proofs.along.Goals as goal

-- the greater of a number and zero
greater : (z : ℤ) → int_max z (pos 0) ≡ pos (nat_of z)
greater (pos zero) = refl
greater (pos (suc n)) = ap (λ (b : Bool). cond b (pos (suc n)) (pos 0)) (le-leb 1 (suc n) (omega arith))
greater (negsuc n) = refl

nat_of-le : (z : ℤ) → nat_of z ≤ nat_abs z
nat_of-le (pos n) = omega arith
nat_of-le (negsuc n) = omega arith

-- the two products: u and v of the first, w and z of the second
module _ {p : PixelPosition} {s : Segment} (p_in : InLimits p) (a_in : InLimits s.a) (b_in : InLimits s.b) {u v w z : ℤ} (u_in : mag u < 2 ^ 63) (u_is : u ≡ diff p.x s.a.x) (v_in : mag v < 2 ^ 63) (v_is : v ≡ diff s.b.x s.a.x) (w_in : mag w < 2 ^ 63) (w_is : w ≡ diff p.y s.a.y) (z_in : mag z < 2 ^ 63) (z_is : z ≡ diff s.b.y s.a.y) where
  abbrev level : ℤ
  level = diff p.x s.a.x *ℤ diff s.b.x s.a.x

  abbrev upright : ℤ
  upright = diff p.y s.a.y *ℤ diff s.b.y s.a.y

  abbrev level_bits : ℤ
  level_bits = to_z w64 (of_z w64 u) *ℤ to_z w64 (of_z w64 v)

  abbrev upright_bits : ℤ
  upright_bits = to_z w64 (of_z w64 w) *ℤ to_z w64 (of_z w64 z)

  level_fits : SFits w64 level_bits
  level_fits = product_fits p.x s.a.x s.b.x s.a.x u_in u_is v_in v_is p_in.x_in a_in.x_in b_in.x_in a_in.x_in

  upright_fits : SFits w64 upright_bits
  upright_fits = product_fits p.y s.a.y s.b.y s.a.y w_in w_is z_in z_is p_in.y_in a_in.y_in b_in.y_in a_in.y_in

  sum_is : to_z w64 (of_z w64 level_bits) +ℤ to_z w64 (of_z w64 upright_bits) ≡ level +ℤ upright
  sum_is =
      λ i.
      (to_z-of_z level_fits ∙ product_is p.x s.a.x s.b.x s.a.x u_in u_is v_in v_is) i +ℤ (to_z-of_z upright_fits ∙ product_is p.y s.a.y s.b.y s.a.y w_in w_is z_in z_is) i

  sum_in : nat_abs (level +ℤ upright) ≤ max_pixel * max_pixel + max_pixel * max_pixel
  sum_in =
      omega (arith, nat_abs_sum level upright, nat_abs_diff-product p_in.x_in a_in.x_in b_in.x_in a_in.x_in, nat_abs_diff-product p_in.y_in a_in.y_in b_in.y_in a_in.y_in)

  sum_fits : SFits w64 (to_z w64 (of_z w64 level_bits) +ℤ to_z w64 (of_z w64 upright_bits))
  sum_fits = subst⁻¹ (SFits w64) sum_is (fits {k = max_pixel * max_pixel + max_pixel * max_pixel} tt sum_in)

  -- m is the greater of the sum, as its bits are read, and zero
  module _ {m : ℤ} (m_in : mag m < 2 ^ 63) (m_is : m ≡ int_max (to_z w64 (of_z w64 (to_z w64 (of_z w64 level_bits) +ℤ to_z w64 (of_z w64 upright_bits)))) (pos 0)) where
    greater_is : to_z w64 (of_z w64 m) ≡ pos (nat_of (level +ℤ upright))
    greater_is = given m_in (m_is ∙ (λ i. int_max ((to_z-of_z sum_fits ∙ sum_is) i) (pos 0)) ∙ greater (level +ℤ upright))

    casts : T (non_neg (to_z w64 (of_z w64 m))) × Fits w64 (nat_abs (to_z w64 (of_z w64 m)))
    casts =
        (subst⁻¹ (λ (z : ℤ). T (non_neg z)) greater_is tt, subst⁻¹ (λ (z : ℤ). Fits w64 (nat_abs z)) greater_is (record { fits = lt_of_le_of_lt (le_trans (nat_of-le (level +ℤ upright)) sum_in) (lit< tt) }))

    result_is : nat_abs (to_z w64 (of_z w64 m)) ≡ nat_of (level +ℤ upright)
    result_is = ap nat_abs greater_is

pub overflow_mul-x : goal.overflow_mul-x
overflow_mul-x c =
    product_fits c.args.p.x c.args.s.a.x c.args.s.b.x c.args.s.a.x c.difference.type_inv c.difference.ensures c.difference-2.type_inv c.difference-2.ensures c.requires.0.x_in c.requires.1.x_in c.requires.2.x_in c.requires.1.x_in

pub overflow_mul-y : goal.overflow_mul-y
overflow_mul-y c =
    product_fits c.args.p.y c.args.s.a.y c.args.s.b.y c.args.s.a.y c.difference-3.type_inv c.difference-3.ensures c.difference-4.type_inv c.difference-4.ensures c.requires.0.y_in c.requires.1.y_in c.requires.2.y_in c.requires.1.y_in

pub overflow_add-x : goal.overflow_add-x
overflow_add-x c =
    sum_fits c.requires.0 c.requires.1 c.requires.2 c.difference.type_inv c.difference.ensures c.difference-2.type_inv c.difference-2.ensures c.difference-3.type_inv c.difference-3.ensures c.difference-4.type_inv c.difference-4.ensures

pub overflow_cast-result : goal.overflow_cast-result
overflow_cast-result c =
    casts c.requires.0 c.requires.1 c.requires.2 c.difference.type_inv c.difference.ensures c.difference-2.type_inv c.difference-2.ensures c.difference-3.type_inv c.difference-3.ensures c.difference-4.type_inv c.difference-4.ensures c.max.type_inv c.max.ensures.value

pub returns : goal.returns
returns c =
    result_is c.requires.0 c.requires.1 c.requires.2 c.difference.type_inv c.difference.ensures c.difference-2.type_inv c.difference-2.ensures c.difference-3.type_inv c.difference-3.ensures c.difference-4.type_inv c.difference-4.ensures c.max.type_inv c.max.ensures.value
