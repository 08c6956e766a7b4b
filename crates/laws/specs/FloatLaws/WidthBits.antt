-- A width fits exactly where its bits, read as a whole number, are at most those of 65,536. Below the infinity's pattern doubles compare as their patterns. From there up to the
-- sign's bit stand the infinity and the NaNs, none of which is at most 65,536, and above is the sign. So a width that fits is finite. Assumes nothing.
use Rattle.std.specs.Prelude.{ℕ, ◌*◌, ◌/◌, ◌%◌, ◌^◌, ◌≤◌, ◌<◌, ◌≡◌, refl, Bool, true, false, ◌&&◌, cond, eqb, leb}
use Rattle.std.proofs.Common.{arith, sym, ap, ◌∙◌, inl, inr, lit<, lt-ltb, le-ltb, leb-true}
use Rattle.std.specs.Float.{nan, inf, binary64}
use Rattle.std.specs.Float.Ieee.{of_bits, of_fields, le}
use Rattle.std.proofs.lemmas.Bool.{lt-leb}
use Rattle.definitions.specs.Geometry.{float}
use Rattle.definitions.specs.Refusals.{width_fits}
use Rattle.laws.specs.NumberLaws.Comparisons.{le_or_lt}
use Rattle.laws.specs.FloatLaws.KeysAsBits.{le_of_bits}

-- the bits of 65,536
abbrev pub max_width_bits : ℕ
max_width_bits = 0x40F0_0000_0000_0000

max-width-read : of_bits binary64 max_width_bits ≡ float 65536
unfolding of_bits float
max-width-read = refl

-- the pattern's exponent is the largest
not_finite : (bits : ℕ) → 2047 * 2 ^ 52 ≤ bits → bits < 2 ^ 63 → le (of_bits binary64 bits) (float 65536) ≡ false
unfolding le of_bits float
not_finite bits l h = ap (λ x. le (of_fields binary64 (leb (2 ^ 63) bits) x (bits % 2 ^ 52)) (float 65536)) (top bits l h) ∙ go (eqb (bits % 2 ^ 52) 0) (leb (2 ^ 63) bits) (lt-leb (2 ^ 63) bits h)
  where
    top : (b : ℕ) → 2047 * 2 ^ 52 ≤ b → b < 2 ^ 63 → b % 2 ^ 63 / 2 ^ 52 ≡ 2047
    top b l h = omega arith

    go : (t s : Bool) → s ≡ false → le (cond t (inf s) nan) (float 65536) ≡ false
    go true s e = ap (λ s. le (inf s) (float 65536)) e
    go false s e = refl

finite_or_not : (bits : ℕ) → bits < 2 ^ 63 → le (of_bits binary64 bits) (float 65536) ≡ leb bits max_width_bits
finite_or_not bits h = elim (le_or_lt (2047 * 2 ^ 52) bits) [
  | inl l ↦ not_finite bits l h ∙ sym (lt-leb bits max_width_bits (omega arith))
  | inr l ↦ ap (le (of_bits binary64 bits)) (sym max-width-read) ∙ le_of_bits bits max_width_bits l (lit< tt)
]

pub width_as_bits : (bits : ℕ) → width_fits bits ≡ leb bits max_width_bits
unfolding width_fits
width_as_bits bits = elim (le_or_lt (2 ^ 63) bits) [
  | inl l ↦ ap (λ t. t && le (of_bits binary64 bits) (float 65536)) (le-ltb bits (2 ^ 63) l) ∙ sym (lt-leb bits max_width_bits (omega arith))
  | inr h ↦ ap (λ t. t && le (of_bits binary64 bits) (float 65536)) (lt-ltb bits (2 ^ 63) h) ∙ finite_or_not bits h
]

pub width-finite : (bits : ℕ) → width_fits bits ≡ true → bits < 2047 * 2 ^ 52
width-finite bits h = below (leb-true bits max_width_bits (sym (width_as_bits bits) ∙ h))
  where
    below : bits ≤ max_width_bits → bits < 2047 * 2 ^ 52
    below l = omega arith
