-- The answer to two doubles, by their patterns a and b: refused where one is out of range, and else the root of the patterns' squares. Assumes nothing.
use mathlib.Core.Path.{◌≡◌, sym, ap, ◌∙◌}
use mathlib.Core.Logic.{◌⊎◌, inl, inr}
use mathlib.Core.Bool.{Bool, true, false, cond, ◌&&◌, ◌||◌, true≢false}
use Prim.Native.Nat.{ℕ, ◌+◌, ◌*◌, ◌^◌, ◌≤◌}
use lib.Dec.{T, leb, eqb, leb→le, eqb→eq}
use lib.IntN.{pos}
use lib.Ieee.{Float, nan, inf, fin, binary64, fits}
use Rattle.definitions.specs.Hypotenuse.{magnitude, root_of, sum_of_squares, hypot_of, in_range, hypot_number, hypot_value}
use Rattle.definitions.specs.Nearest.{pattern_magnitude}
use Rattle.laws.specs.FloatLaws.Patterns.{pattern_of, read}
use Rattle.laws.specs.FloatLaws.PatternOrder.{pattern_in_range, in_range_lem}

-- ---- the range of a pattern

pub within : (b : ℕ) → T (pattern_in_range b) → (b ≡ 0) ⊎ ((959 * 2 ^ 52 ≤ b) × (b ≤ 1038 * 2 ^ 52))
within b t = go (eqb b 0) (leb (959 * 2 ^ 52) b) (leb b (1038 * 2 ^ 52)) (eqb→eq b 0) (leb→le (959 * 2 ^ 52) b) (leb→le b (1038 * 2 ^ 52)) t
  where
    go : (p q r : Bool) → (T p → b ≡ 0) → (T q → 959 * 2 ^ 52 ≤ b) → (T r → b ≤ 1038 * 2 ^ 52) → T (p || (q && r)) → (b ≡ 0) ⊎ ((959 * 2 ^ 52 ≤ b) × (b ≤ 1038 * 2 ^ 52))
    go true q r x y z t = inl (x tt)
    go false true true x y z t = inr (y tt, z tt)
    go false true false x y z t = absurd t
    go false false r x y z t = absurd t

-- ---- the magnitude, in range

in_range-read : (x : Float) → T (fits binary64 x) → in_range x ≡ true → magnitude x ≡ pattern_magnitude (pattern_of x)
unfolding in_range
in_range-read nan f h = absurd (true≢false (sym h))
in_range-read (inf s) f h = absurd (true≢false (sym h))
in_range-read (fin s m e) f h = (read s m e f).0

-- ---- the answer

module _ (x y : Float) (fx : T (fits binary64 x)) (fy : T (fits binary64 y)) (a b : ℕ) (ea : a ≡ pattern_of x) (eb : b ≡ pattern_of y) where
  range-x : in_range x ≡ pattern_in_range a
  range-x = in_range_lem x fx ∙ ap pattern_in_range (sym ea)

  range-y : in_range y ≡ pattern_in_range b
  range-y = in_range_lem y fy ∙ ap pattern_in_range (sym eb)

  module _ (p : pattern_in_range a ≡ true) (q : pattern_in_range b ≡ true) where
    both : (in_range x && in_range y) ≡ true
    both = (λ i. range-x i && range-y i) ∙ (λ i. p i && q i)

    pub answered : (0 ≡ hypot_number x y) × (root_of (pattern_magnitude a * pattern_magnitude a + pattern_magnitude b * pattern_magnitude b) ≡ hypot_value x y)
    unfolding hypot_number hypot_value hypot_of sum_of_squares
    answered =
        let mx : magnitude x ≡ pattern_magnitude a = in_range-read x fx (range-x ∙ p) ∙ ap pattern_magnitude (sym ea) in
        let my : magnitude y ≡ pattern_magnitude b = in_range-read y fy (range-y ∙ q) ∙ ap pattern_magnitude (sym eb) in (
          sym (ap (λ (t : Bool). cond t 0 13) both),
          sym (ap (λ (t : Bool). cond t (hypot_of x y) (fin false 0 (pos 0))) both ∙ (λ i. root_of (mx i * mx i + my i * my i))),
        )

  refused : (in_range x && in_range y) ≡ false → (13 ≡ hypot_number x y) × (fin false 0 (pos 0) ≡ hypot_value x y)
  unfolding hypot_number hypot_value
  refused h = (sym (ap (λ (t : Bool). cond t 0 13) h), sym (ap (λ (t : Bool). cond t (hypot_of x y) (fin false 0 (pos 0))) h))

  pub refused-x : pattern_in_range a ≡ false → (13 ≡ hypot_number x y) × (fin false 0 (pos 0) ≡ hypot_value x y)
  refused-x p = refused (ap (λ (t : Bool). t && in_range y) (range-x ∙ p))

  pub refused-y : pattern_in_range a ≡ true → pattern_in_range b ≡ false → (13 ≡ hypot_number x y) × (fin false 0 (pos 0) ≡ hypot_value x y)
  refused-y p q = refused ((λ i. range-x i && range-y i) ∙ (λ i. p i && q i))
