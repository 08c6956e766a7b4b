-- Widths and separations stand in the passes' keys as their bit patterns. For finite doubles whose sign is clear this is their order: IEEE 754's `lt`, `le` and `eq` of them
-- are `ltb`, `leb` and `eqb` of the patterns, since the magnitude grows with the pattern, and values compare as their magnitudes. So Rust's `partial_cmp` of them is the order of the bits.
-- (That IEEE 754-2019's total_order of widths is the order of the bits too is WidthOrder.) Assumes nothing.
use Rattle.std.specs.Prelude.{◌≡◌, refl, ◌↔◌, ℕ, ◌*◌, ◌^◌, ◌≤◌, ◌<◌, Bool, true, false, ◌&&◌, ◌||◌, T, leb, ltb, eqb, Float}
use Rattle.std.proofs.Common.{sym, ◌∙◌, inl, inr, not-le_of_lt, le_of_eq, le_of_lt, eq-or-lt_of_le, mul-le-mul_right, le_of_mul-le-mul_right, true≢false, pow_pos, lt-ltb, le-ltb, le-leb, eq-eqb, ne_eqb}
use Rattle.std.specs.Float.{nan, inf, fin, binary64}
use Rattle.std.specs.Float.Ieee.{up, down, lt, le, eq, fits, of_bits, to_bits}
use Rattle.std.specs.Float.Ieee.Fits.{down_pos}
use Rattle.std.specs.Float.Ieee.Exact.{HasValue}
use Rattle.std.specs.Float.Ieee.Order.{transfer}
use Rattle.std.specs.Float.Ieee.Bits.{of_bits-to_bits}
use Rattle.std.proofs.lemmas.Bool.{lt-leb}
use Rattle.definitions.specs.Nearest.{pattern_magnitude}
use Rattle.laws.specs.NumberLaws.Comparisons.{le_or_lt, SameOrder, leb_same, ltb_same, eqb_same}
use Rattle.laws.specs.FloatLaws.Patterns.{SignClear, to_bits_below, of_bits_below}
use Rattle.laws.specs.FloatLaws.PatternOrder.{magnitude-order}

-- ---- values compare as their magnitudes

-- x / e is a / c and y / d is b / c
fractions : (x y e d a b c : ℕ) → 0 < c → 0 < e → 0 < d → x * c ≡ a * e → y * c ≡ b * d → x * d ≤ y * e ↔ a ≤ b
fractions x y e d a b c C E D p q = (λ h. le_of_mul-le-mul_right (transfer a b c c x y e d E D (sym p) (sym q) h) C, λ h. transfer x y e d a b c c C C p q (mul-le-mul_right c h))

and_true : (p : Bool) → (p && true) ≡ p
and_true true = refl
and_true false = refl

pub below_or-level : (a b : ℕ) → (ltb a b || (eqb a b && true)) ≡ leb a b
below_or-level a b = elim (le_or_lt a b) [
  | inl h ↦ elim (eq-or-lt_of_le h) [
    | inl e ↦ (λ i. le-ltb a b (le_of_eq (sym e)) i || (eq-eqb a b e i && true)) ∙ sym (le-leb a b h)
    | inr l ↦ (λ i. lt-ltb a b l i || (eqb a b && true)) ∙ sym (le-leb a b h)
  ]
  | inr l ↦ (λ i. le-ltb a b (le_of_lt l) i || (ne_eqb a b (λ e. not-le_of_lt l (le_of_eq e)) i && true)) ∙ sym (lt-leb a b l)
]

-- the three comparisons of x and y are those of a and b
abbrev Alike : Float → Float → ℕ → ℕ → Type 0
Alike x y a b = (lt x y ≡ ltb a b) × (le x y ≡ leb a b) × (eq x y ≡ eqb a b)

values : (x y : Float) (a b : ℕ) → HasValue x false a (2 ^ 1074) → HasValue y false b (2 ^ 1074) → Alike x y a b
unfolding lt le eq
values nan y a b p q = absurd p
values (inf s) y a b p q = absurd p
values (fin true m e) y a b p q = absurd (true≢false p.0)
values (fin false m e) nan a b p q = absurd q
values (fin false m e) (inf t) a b p q = absurd q
values (fin false m e) (fin true n d) a b p q = absurd (true≢false q.0)
values (fin false m e) (fin false n d) a b p q = (ltb_same o, below_or-level (m * up e * down d) (n * up d * down e) ∙ leb_same o, and_true (eqb (m * up e * down d) (n * up d * down e)) ∙ eqb_same o)
  where
    o : SameOrder (m * up e * down d) (n * up d * down e) a b
    o = (
      fractions (m * up e) (n * up d) (down e) (down d) a b (2 ^ 1074) (pow_pos 1074) (down_pos e) (down_pos d) p.1 q.1,
      fractions (n * up d) (m * up e) (down d) (down e) b a (2 ^ 1074) (pow_pos 1074) (down_pos d) (down_pos e) q.1 p.1,
    )

-- ---- doubles compare as their patterns

module _ (a b : ℕ) (ha : a < 2047 * 2 ^ 52) (hb : b < 2047 * 2 ^ 52) where
  alike : Alike (of_bits binary64 a) (of_bits binary64 b) (pattern_magnitude a) (pattern_magnitude b)
  alike = values (of_bits binary64 a) (of_bits binary64 b) (pattern_magnitude a) (pattern_magnitude b) (of_bits_below a ha) (of_bits_below b hb)

  pub lt_of_bits : lt (of_bits binary64 a) (of_bits binary64 b) ≡ ltb a b
  lt_of_bits = alike.0 ∙ ltb_same (magnitude-order a b)

  pub le_of_bits : le (of_bits binary64 a) (of_bits binary64 b) ≡ leb a b
  le_of_bits = alike.1 ∙ leb_same (magnitude-order a b)

  pub eq_of_bits : eq (of_bits binary64 a) (of_bits binary64 b) ≡ eqb a b
  eq_of_bits = alike.2 ∙ eqb_same (magnitude-order a b)

module _ (x y : Float) (cx : SignClear x) (cy : SignClear y) (fx : T (fits binary64 x)) (fy : T (fits binary64 y)) where
  -- what holds of the doubles of the two patterns holds of x and y
  as_read : (f : Float → Float → Bool) (g : ℕ → ℕ → Bool) → ((a b : ℕ) → a < 2047 * 2 ^ 52 → b < 2047 * 2 ^ 52 → f (of_bits binary64 a) (of_bits binary64 b) ≡ g a b) → f x y ≡ g (to_bits binary64 x) (to_bits binary64 y)
  as_read f g h = (λ i. f (sym (of_bits-to_bits binary64 x fx) i) (sym (of_bits-to_bits binary64 y fy) i)) ∙ h (to_bits binary64 x) (to_bits binary64 y) (to_bits_below x cx fx) (to_bits_below y cy fy)

  pub lt_to_bits : lt x y ≡ ltb (to_bits binary64 x) (to_bits binary64 y)
  lt_to_bits = as_read lt ltb lt_of_bits

  pub le_to_bits : le x y ≡ leb (to_bits binary64 x) (to_bits binary64 y)
  le_to_bits = as_read le leb le_of_bits
