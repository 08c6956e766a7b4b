-- `segments::cross` meets its contract. A difference is at most 8,192 in size, so a product of two is at most 2^26 and the result at most 2^27.
-- Assumes nothing.
use mathlib.Core.Path.{◌≡◌, ◌∙◌, subst⁻¹}
use Prim.Native.Nat.{◌+◌, ◌*◌, ◌≤◌, ◌<◌, ◌^◌}
use native.Mathlib.Omega.{arith}
use lib.IntN.{ℤ, nat_abs, ◌-ℤ◌, ◌*ℤ◌}
use lib.Signed.{mag}
use mir.Syntax.{w64}
use mir.Val.{SFits, to_z, of_z}
use mir.Facts.{to_z-of_z}
use Rattle.definitions.specs.Spans.{diff, cross}
use Rattle.laws.specs.NumberLaws.WholeNumbers.{nat_abs_diff-product, nat_abs_difference}
use Rattle.span_geometry.specs.declared.PixelPosition.{PixelPosition}
use Rattle.span_geometry.specs.Shapes.{max_pixel, InLimits}
use Rattle.span_geometry.proofs.Signed.{fits, product_is, product_fits}
use Rattle.span_geometry.proofs.segments.cross.Goals as goal

pub overflow_mul-result : goal.overflow_mul-result
overflow_mul-result c =
    product_fits c.args.s.b.x c.args.s.a.x c.args.point.y c.args.s.a.y c.difference-delta_x.type_inv c.difference-delta_x.ensures c.difference.type_inv c.difference.ensures c.requires.1.x_in c.requires.0.x_in c.requires.2.y_in c.requires.0.y_in

pub overflow_mul-result-2 : goal.overflow_mul-result-2
overflow_mul-result-2 c =
    product_fits c.args.s.b.y c.args.s.a.y c.args.point.x c.args.s.a.x c.difference-delta_y.type_inv c.difference-delta_y.ensures c.difference-2.type_inv c.difference-2.ensures c.requires.1.y_in c.requires.0.y_in c.requires.2.x_in c.requires.0.x_in

-- the two products: u and v of the first, w and z of the second
module _ {a b point : PixelPosition} (a_in : InLimits a) (b_in : InLimits b) (point_in : InLimits point) {u v w z : ℤ} (u_in : mag u < 2 ^ 63) (u_is : u ≡ diff b.x a.x) (w_in : mag w < 2 ^ 63) (w_is : w ≡ diff b.y a.y) (v_in : mag v < 2 ^ 63) (v_is : v ≡ diff point.y a.y) (z_in : mag z < 2 ^ 63) (z_is : z ≡ diff point.x a.x) where
  abbrev across : ℤ
  across = diff b.x a.x *ℤ diff point.y a.y

  abbrev along : ℤ
  along = diff b.y a.y *ℤ diff point.x a.x

  abbrev across_bits : ℤ
  across_bits = to_z w64 (of_z w64 u) *ℤ to_z w64 (of_z w64 v)

  abbrev along_bits : ℤ
  along_bits = to_z w64 (of_z w64 w) *ℤ to_z w64 (of_z w64 z)

  across_is : to_z w64 (of_z w64 across_bits) ≡ across
  across_is = to_z-of_z (product_fits b.x a.x point.y a.y u_in u_is v_in v_is b_in.x_in a_in.x_in point_in.y_in a_in.y_in) ∙ product_is b.x a.x point.y a.y u_in u_is v_in v_is

  along_is : to_z w64 (of_z w64 along_bits) ≡ along
  along_is = to_z-of_z (product_fits b.y a.y point.x a.x w_in w_is z_in z_is b_in.y_in a_in.y_in point_in.x_in a_in.x_in) ∙ product_is b.y a.y point.x a.x w_in w_is z_in z_is

  read : to_z w64 (of_z w64 across_bits) -ℤ to_z w64 (of_z w64 along_bits) ≡ across -ℤ along
  read = λ i. across_is i -ℤ along_is i

  difference_in : nat_abs (across -ℤ along) ≤ max_pixel * max_pixel + max_pixel * max_pixel
  difference_in =
      omega (arith, nat_abs_difference across along, nat_abs_diff-product b_in.x_in a_in.x_in point_in.y_in a_in.y_in, nat_abs_diff-product b_in.y_in a_in.y_in point_in.x_in a_in.x_in)

  difference_fits : SFits w64 (to_z w64 (of_z w64 across_bits) -ℤ to_z w64 (of_z w64 along_bits))
  difference_fits = subst⁻¹ (SFits w64) read (fits {k = max_pixel * max_pixel + max_pixel * max_pixel} tt difference_in)

  difference_is : to_z w64 (of_z w64 (to_z w64 (of_z w64 across_bits) -ℤ to_z w64 (of_z w64 along_bits))) ≡ across -ℤ along
  difference_is = to_z-of_z difference_fits ∙ read

pub overflow_sub-result : goal.overflow_sub-result
overflow_sub-result c =
    difference_fits c.requires.0 c.requires.1 c.requires.2 c.difference-delta_x.type_inv c.difference-delta_x.ensures c.difference-delta_y.type_inv c.difference-delta_y.ensures c.difference.type_inv c.difference.ensures c.difference-2.type_inv c.difference-2.ensures

pub returns : goal.returns
unfolding cross
returns c =
    difference_is c.requires.0 c.requires.1 c.requires.2 c.difference-delta_x.type_inv c.difference-delta_x.ensures c.difference-delta_y.type_inv c.difference-delta_y.ensures c.difference.type_inv c.difference.ensures c.difference-2.type_inv c.difference-2.ensures
