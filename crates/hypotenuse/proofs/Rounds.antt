-- How `root_of S` rounds, told by a whole root. 4 * S is F squares of a unit P * U and L more of U, fewer than one such square, and t is the whole root of F.
-- So the squares of t units and fewer are not above 4 * S, and those of more than t units are above it: the L below the unit change no comparison but that with
-- an exact square of t units. Assumes nothing.
use mathlib.Core.Path.{◌≡◌, refl, sym, ap, ◌∙◌, subst}
use mathlib.Core.Logic.{◌⊎◌, inl, inr}
use mathlib.Core.Bool.{false}
use Prim.Native.Nat.{ℕ, suc, ◌+◌, ◌*◌, ◌%◌, ◌^◌, ◌≤◌, ◌<◌, Ordering}
use native.Mathlib.Nat.{le_trans, le_of_eq, lt_of_le_of_lt, lt_of_lt_of_le, mul_assoc, mul_left_comm, mul-le-mul_right, mul-lt-mul_of_pos_right, mul-pos, le-add_right, add-zero, suc-mul, eq-zero-or-pos}
use native.Mathlib.Numerals.{add-one}
use native.Mathlib.Omega.{arith}
use lib.Ieee.{nearest, units, binary64}
use Rattle.definitions.specs.Hypotenuse.{root_of}
use Rattle.laws.specs.NumberLaws.Comparisons.{compare_lt, compare_eq, compare_gt}
use Rattle.laws.specs.NumberLaws.Squares.{square_le, square_next, square-twice}
use Rattle.laws.specs.FloatLaws.WholeRoot.{root_at, root_of_is}

-- ---- F * A + L against y * A, both times B

module _ (F L A B y : ℕ) (few : L < A) (pos : 0 < B) where
  scaled-le : y ≤ F → y * A * B ≤ (F * A + L) * B
  scaled-le h = mul-le-mul_right B (le_trans (mul-le-mul_right A h) (le-add_right (F * A) L))

  scaled_lt : F < y → (F * A + L) * B < y * A * B
  scaled_lt h = mul-lt-mul_of_pos_right (step (F * A) (suc F * A) (suc-mul F A) (mul-le-mul_right A h)) pos
    where
      step : (f g : ℕ) → g ≡ f + A → g ≤ y * A → f + L < y * A
      step f g e h = omega arith

  scaled_gt : (y < F) ⊎ ((y ≤ F) × (0 < L)) → y * A * B < (F * A + L) * B
  scaled_gt (inl h) = mul-lt-mul_of_pos_right (lt_of_lt_of_le (mul-lt-mul_of_pos_right h (some few)) (le-add_right (F * A) L)) pos
    where
      some : L < A → 0 < A
      some h = omega arith
  scaled_gt (inr h) = mul-lt-mul_of_pos_right (lt_of_le_of_lt (mul-le-mul_right A h.0) (more (F * A) L h.1)) pos
    where
      more : (f l : ℕ) → 0 < l → f < f + l
      more f l h = omega arith

-- ---- squares of x units against 4 * S

square-unit : (x P U : ℕ) → x * (P * U) * (x * (P * U)) ≡ x * x * (P * P) * (U * U)
square-unit x P U = simp (mul_assoc, mul_left_comm) refl

-- t is the whole root of F, and rest is what is left
pub record Measured (S F L P U t rest : ℕ) : Type 0 where
  pub total : 4 * S ≡ (F * (P * P) + L) * (U * U)
  pub root : t * t + rest ≡ F
  pub rest_le : rest ≤ 2 * t
  pub below-unit : L < P * P
  pub U_pos : 0 < U

module _ {S F L P U t rest : ℕ} (m : Measured S F L P U t rest) where
  U-square : 0 < U * U
  U-square = mul-pos m.U_pos m.U_pos

  not-above : (x : ℕ) → x ≤ t → x * (P * U) * (x * (P * U)) ≤ 4 * S
  not-above x h =
      let q : x * x ≤ t * t = square_le x t h in
      le_trans (le_of_eq (square-unit x P U)) (le_trans (scaled-le F L (P * P) (U * U) (x * x) m.below-unit U-square (omega arith)) (le_of_eq (sym m.total)))

  above : (x : ℕ) → t < x → 4 * S < x * (P * U) * (x * (P * U))
  above x h =
      let q : (t + 1) * (t + 1) ≤ x * x = square_le (t + 1) x (omega arith) in
      lt_of_le_of_lt (le_of_eq m.total)
      (lt_of_lt_of_le (scaled_lt F L (P * P) (U * U) (x * x) m.below-unit U-square (omega (arith, square_next t))) (le_of_eq (sym (square-unit x P U))))

  below : (x : ℕ) → (x < t) ⊎ ((x ≤ t) × (0 < rest + L)) → x * (P * U) * (x * (P * U)) < 4 * S
  below x h = lt_of_le_of_lt (le_of_eq (square-unit x P U)) (lt_of_lt_of_le (scaled_gt F L (P * P) (U * U) (x * x) m.below-unit U-square (cases h)) (le_of_eq (sym m.total)))
    where
      cases : (x < t) ⊎ ((x ≤ t) × (0 < rest + L)) → (x * x < F) ⊎ ((x * x ≤ F) × (0 < L))
      cases (inl l) =
          let q : (x + 1) * (x + 1) ≤ t * t = square_le (x + 1) t (omega arith) in
          inl (omega (arith, square_next x))
      cases (inr l) =
          let q : x * x ≤ t * t = square_le x t l.0 in
          elim (eq-zero-or-pos rest) [ inl z ↦ inr (omega arith, omega arith) | inr p ↦ inl (omega arith) ]

  level : rest + L ≡ 0 → 4 * S ≡ t * (P * U) * (t * (P * U))
  level z =
      let l : L ≡ 0 = omega arith in
      let f : F ≡ t * t = omega arith in
      m.total
      ∙ ap (λ (l : ℕ). (F * (P * P) + l) * (U * U)) l
      ∙ ap (λ (w : ℕ). w * (U * U)) (add-zero (F * (P * P)))
      ∙ ap (λ (w : ℕ). w * (P * P) * (U * U)) f
      ∙ sym (square-unit t P U)

  -- ---- the rounding: q leading digits of the root in units of 2 ^ k, each of which is w of the code's units; half of one is then w of its halves

  module _ (q w k : ℕ) (lo : 2 ^ 52 ≤ q) (hi : q < 2 ^ 53) (unit : 2 ^ k ≡ w * (P * U)) (from : 2 * q * w ≤ t) (to : t < (2 * q + 2) * w) where
    in_units : (y : ℕ) → y * w * (P * U) ≡ y * 2 ^ k
    in_units y = mul_assoc y w (P * U) ∙ ap (λ (z : ℕ). y * z) (sym unit)

    twice : (y : ℕ) → 2 * y * 2 ^ k * (2 * y * 2 ^ k) ≡ 4 * (y * 2 ^ k * (y * 2 ^ k))
    twice y = ap (λ (z : ℕ). z * z) (mul_assoc 2 y (2 ^ k)) ∙ square-twice (y * 2 ^ k)

    base : root_of S ≡ root_at S q k
    base =
        root_of_is S q k lo hi
        (quarter (subst (λ (z : ℕ). z * z ≤ 4 * S) (in_units (2 * q)) (not-above (2 * q * w) from)) (twice q))
        (quarter_lt (subst (λ (z : ℕ). 4 * S < z * z) (ap (λ (z : ℕ). z * w * (P * U)) (two_more q) ∙ in_units (2 * (q + 1))) (above ((2 * q + 2) * w) to)) (twice (q + 1)))
      where
        quarter : {a b : ℕ} → a ≤ 4 * S → a ≡ 4 * b → b ≤ S
        quarter h e = omega arith

        quarter_lt : {a b : ℕ} → 4 * S < a → a ≡ 4 * b → S < b
        quarter_lt h e = omega arith

        two_more : (q : ℕ) → 2 * q + 2 ≡ 2 * (q + 1)
        two_more q = omega arith

    -- the middle between q and q + 1, twice
    middle : (2 * q + 1) * w * (P * U) * ((2 * q + 1) * w * (P * U)) ≡ (2 * q + 1) * 2 ^ k * ((2 * q + 1) * 2 ^ k)
    middle = ap (λ (z : ℕ). z * z) (in_units (2 * q + 1))

    by : {o p : Ordering} → o ≡ p → units binary64 false (nearest q o) k ≡ units binary64 false (nearest q p) k
    by e = ap (λ o. units binary64 false (nearest q o) k) e

    pub went_down : t < (2 * q + 1) * w → root_of S ≡ units binary64 false q k
    went_down h = base ∙ by (compare_lt (4 * S) _ (subst (λ (z : ℕ). 4 * S < z) middle (above ((2 * q + 1) * w) h)))

    pub went_up : ((2 * q + 1) * w < t) ⊎ (((2 * q + 1) * w ≤ t) × (0 < rest + L)) → root_of S ≡ units binary64 false (q + 1) k
    went_up h = base ∙ by (compare_gt (4 * S) _ (subst (λ (z : ℕ). z < 4 * S) middle (below ((2 * q + 1) * w) h))) ∙ ap (λ (z : ℕ). units binary64 false z k) (sym (add-one q))

    pub tied : t ≡ (2 * q + 1) * w → rest + L ≡ 0 → root_of S ≡ units binary64 false (q + q % 2) k
    tied h z = base ∙ by (compare_eq (4 * S) _ (level z ∙ ap (λ (x : ℕ). x * (P * U) * (x * (P * U))) h ∙ middle))
