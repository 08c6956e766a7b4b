-- `ramp_geometry::intersects` meets its contract: its five tests are those of the definition, each as its function ensures. Assumes nothing.
use mathlib.Core.Path.{◌≡◌, refl, ap, ◌∙◌}
use mathlib.Core.Bool.{Bool, not, ◌&&◌, ◌||◌}
use Prim.Native.Nat.{ℕ, zero, suc, ◌^◌, ◌<◌}
use native.Mathlib.Omega.{arith}
use lib.Dec.{eqb}
use lib.IntN.{ℤ, pos, negsuc}
use lib.Signed.{mag}
use mir.Syntax.{w64}
use mir.Val.{to_z, of_z}
use mir.Facts.{to_z-of_z}
use Rattle.std.specs.Prelude.{min}
use Rattle.std.specs.Int.{int_signum}
use Rattle.definitions.specs.Grid.{Position}
use Rattle.definitions.specs.Spans.{is_zero, on_segment}
use Rattle.definitions.specs.RampGeometry.{signum, intersects}
use Rattle.geometry.specs.Forms.{segment_form}
use Rattle.geometry.proofs.ramp_geometry.intersects.Goals as goal

one : (n : ℕ) → min (suc n) 1 ≡ 1
one n = omega arith

-- A side value that a call gave, as its bits are read: z is the result, y what the call ensures of it. With it, what a test of that value answers.
module _ {y z : ℤ} (fit : mag z < 2 ^ 63) (e : z ≡ y) where
  read : to_z w64 (of_z w64 z) ≡ y
  read = to_z-of_z {w = w64} (record { sfits = fit }) ∙ e

  touching : (a b p : Position) {t : Bool} → t ≡ (is_zero (to_z w64 (of_z w64 z)) && on_segment a b p) → t ≡ (is_zero y && on_segment a b p)
  touching a b p h = h ∙ ap (λ v. is_zero v && on_segment a b p) read

  sign : {n : ℤ} → n ≡ int_signum (to_z w64 (of_z w64 z)) → n ≡ int_signum y
  sign h = h ∙ ap int_signum read

-- the library's `signum` tells the same numbers apart as the definition's, which is moved by 1
same_signs : (y z : ℤ) → eqb (of_z w64 (int_signum y)) (of_z w64 (int_signum z)) ≡ eqb (signum y) (signum z)
same_signs (pos zero) (pos zero) = refl
same_signs (pos zero) (pos (suc n)) = λ i. eqb 0 (of_z w64 (pos (one n i)))
same_signs (pos zero) (negsuc n) = refl
same_signs (pos (suc m)) (pos zero) = λ i. eqb (of_z w64 (pos (one m i))) 0
same_signs (pos (suc m)) (pos (suc n)) = λ i. eqb (of_z w64 (pos (one m i))) (of_z w64 (pos (one n i)))
same_signs (pos (suc m)) (negsuc n) = λ i. eqb (of_z w64 (pos (one m i))) (of_z w64 (negsuc 0))
same_signs (negsuc m) (pos zero) = refl
same_signs (negsuc m) (pos (suc n)) = λ i. eqb (of_z w64 (negsuc 0)) (of_z w64 (pos (one n i)))
same_signs (negsuc m) (negsuc n) = refl

-- two side values against one another
differ : {y z v w m n : ℤ} → mag z < 2 ^ 63 → z ≡ y → mag w < 2 ^ 63 → w ≡ v → m ≡ int_signum (to_z w64 (of_z w64 z)) → n ≡ int_signum (to_z w64 (of_z w64 w))
    → eqb (of_z w64 m) (of_z w64 n) ≡ eqb (signum y) (signum v)
differ {y} {z} {v} {w} f e g d h k = (λ i. eqb (of_z w64 (sign f e h i)) (of_z w64 (sign g d k i))) ∙ same_signs y v

pub returns : goal.returns
unfolding intersects
returns c =
    let s = segment_form c.args.left in
    let t = segment_form c.args.right in
    let first = c.cross-left_right_start in
    let second = c.cross-left_right_end in
    let third = c.cross-right_left_start in
    let fourth = c.cross-right_left_end in
    λ i.
    touching first.type_inv first.ensures s.a s.b t.a c.touches.ensures i
    || touching second.type_inv second.ensures s.a s.b t.b c.touches-2.ensures i
    || touching third.type_inv third.ensures t.a t.b s.a c.touches-3.ensures i
    || touching fourth.type_inv fourth.ensures t.a t.b s.b c.touches-4.ensures i
    || not (differ first.type_inv first.ensures second.type_inv second.ensures c.signum.ensures.value c.signum-2.ensures.value i)
    && not (differ third.type_inv third.ensures fourth.type_inv fourth.ensures c.signum-3.ensures.value c.signum-4.ensures.value i)
