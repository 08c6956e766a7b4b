-- `strips::Strip::line_at` meets its contract. The number that it divides is at most 2^27 in size and not negative (`Lines`), so that nothing wraps and the
-- last cast loses nothing. Assumes nothing.
use mathlib.Core.Path.{◌≡◌, sym, ap, ◌∙◌, subst⁻¹}
use Prim.Native.Nat.{ℕ, ◌+◌, ◌-◌, ◌*◌, ◌/◌, ◌≤◌, ◌<◌, ◌^◌, min, max}
use native.Mathlib.Nat.{div-le_self, le_trans, lt_of_le_of_lt}
use native.Mathlib.Omega.{arith}
use lib.Dec.{T, lit<}
use lib.IntN.{ℤ, pos, nat_abs, ◌+ℤ◌, ◌*ℤ◌}
use lib.Signed.{mag, non_neg, shr_z}
use mir.Syntax.{w64}
use mir.Val.{Fits, SFits, to_z, of_z}
use mir.Facts.{to_z-of_z, to_z_pos}
use Rattle.definitions.specs.Spans.{diff, middle_of, nat_of}
use Rattle.laws.specs.NumberLaws.WholeNumbers.{mag≤natAbs}
use Rattle.span_geometry.specs.declared.strips.Strip.{Strip}
use Rattle.span_geometry.specs.Shapes.{max_pixel}
use Rattle.span_geometry.specs.Strips.{Usable, line_of}
use Rattle.span_geometry.proofs.Lines.{risen, risen_is, start_in, risen_in}
use Rattle.span_geometry.proofs.Signed.{fits, given, product_is, product_fits}
use Rattle.span_geometry.proofs.strips.Strip.line_at.Goals as goal

module _ (t : Strip) (usable : Usable t) where
  begins : t.minor0 * (t.major1 - t.major0) < 2 ^ 63
  begins = lt_of_le_of_lt (start_in t.major0 usable.minor0_in usable.major_in) (lit< tt)

  major0_in : t.major0 ≤ max_pixel
  major0_in = omega (arith, usable.forward, usable.major_in)

  module _ (k : ℕ) where
    -- the middle of column k, or the end of the segment that is nearer
    abbrev reached : ℕ
    reached = max t.major0 (min (middle_of k) t.major1)

    abbrev line : ℤ
    line = risen t.major0 t.minor0 t.major1 t.minor1 reached

    abbrev run : ℕ
    run = t.major1 - t.major0

    reached_in : (t.major0 ≤ reached) × (reached ≤ t.major1)
    reached_in = omega (arith, usable.forward)

    reached_small : reached ≤ max_pixel
    reached_small = omega (arith, reached_in.1, usable.major_in)

    line_in : nat_abs line ≤ max_pixel * max_pixel + max_pixel * max_pixel
    line_in = risen_in usable.minor0_in usable.major_in usable.minor1_in major0_in reached_small

    line_is : line ≡ pos (mag line)
    line_is = risen_is t.major0 t.minor0 t.major1 t.minor1 reached reached_in.0 reached_in.1

    -- what the calls give: x and y are the differences that are multiplied, m the least and n the greatest, and l the middle
    module _ {l m n : ℕ} {x y : ℤ} (l_is : l ≡ middle_of k) (m_is : m ≡ min l t.major1) (n_is : n ≡ max t.major0 m) (x_in : mag x < 2 ^ 63) (x_is : x ≡ diff t.minor1 t.minor0) (y_in : mag y < 2 ^ 63) (y_is : y ≡ diff n t.major0) where
      n_reached : n ≡ reached
      n_reached = n_is ∙ (λ i. max t.major0 ((m_is ∙ (λ j. min (l_is j) t.major1)) i))

      y_reached : y ≡ diff reached t.major0
      y_reached = y_is ∙ (λ j. diff (n_reached j) t.major0)

      abbrev product_bits : ℤ
      product_bits = to_z w64 (of_z w64 x) *ℤ to_z w64 (of_z w64 y)

      risen_fits : SFits w64 product_bits
      risen_fits = product_fits t.minor1 t.minor0 reached t.major0 x_in x_is y_in y_reached usable.minor1_in usable.minor0_in reached_small major0_in

      abbrev line_bits : ℤ
      line_bits = to_z w64 (t.minor0 * (t.major1 - t.major0)) +ℤ to_z w64 (of_z w64 product_bits)

      line_bits_is : line_bits ≡ line
      line_bits_is = λ i. to_z_pos w64 begins i +ℤ (to_z-of_z risen_fits ∙ product_is t.minor1 t.minor0 reached t.major0 x_in x_is y_in y_reached) i

      line_fits : SFits w64 line_bits
      line_fits = subst⁻¹ (SFits w64) line_bits_is (fits {k = max_pixel * max_pixel + max_pixel * max_pixel} tt line_in)

      module _ {q : ℤ} (q_in : mag q < 2 ^ 63) (q_is : q ≡ shr_z (to_z w64 (of_z w64 line_bits)) run) where
        quotient_is : to_z w64 (of_z w64 q) ≡ shr_z line run
        quotient_is = given q_in (q_is ∙ (λ i. shr_z ((to_z-of_z line_fits ∙ line_bits_is) i) run))

        whole_is : shr_z line run ≡ pos (mag line / run)
        whole_is = ap (λ (z : ℤ). shr_z z run) line_is

        quotient_casts : T (non_neg (to_z w64 (of_z w64 q))) × Fits w64 (nat_abs (to_z w64 (of_z w64 q)))
        quotient_casts =
            (subst⁻¹ (λ (z : ℤ). T (non_neg z)) (quotient_is ∙ whole_is) tt, subst⁻¹ (λ (z : ℤ). Fits w64 (nat_abs z)) (quotient_is ∙ whole_is) (record { fits = lt_of_le_of_lt (le_trans (div-le_self (mag line) run) (le_trans (mag≤natAbs line) line_in)) (lit< tt) }))

        quotient_of : nat_abs (to_z w64 (of_z w64 q)) ≡ line_of t k
        quotient_of = ap nat_abs (quotient_is ∙ whole_is) ∙ sym (ap nat_of whole_is)

pub overflow_mul-line : goal.overflow_mul-line
overflow_mul-line c =
    risen_fits c.args.self c.requires.0 c.args.k c.middle_of.ensures c.min.ensures c.max-reached.ensures c.difference.type_inv c.difference.ensures c.difference-2.type_inv c.difference-2.ensures

pub overflow_add-line : goal.overflow_add-line
overflow_add-line c =
    line_fits c.args.self c.requires.0 c.args.k c.middle_of.ensures c.min.ensures c.max-reached.ensures c.difference.type_inv c.difference.ensures c.difference-2.type_inv c.difference-2.ensures

pub overflow_cast-result : goal.overflow_cast-result
overflow_cast-result c =
    quotient_casts c.args.self c.requires.0 c.args.k c.middle_of.ensures c.min.ensures c.max-reached.ensures c.difference.type_inv c.difference.ensures c.difference-2.type_inv c.difference-2.ensures c.div_euclid.type_inv c.div_euclid.ensures

pub returns : goal.returns
returns c =
    quotient_of c.args.self c.requires.0 c.args.k c.middle_of.ensures c.min.ensures c.max-reached.ensures c.difference.type_inv c.difference.ensures c.difference-2.type_inv c.difference-2.ensures c.div_euclid.type_inv c.div_euclid.ensures
