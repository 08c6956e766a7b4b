-- Widths rank by total_order: of two widths that check 7 lets pass, total_order is the order of their bits (`total_order_lem`), and by pass 3's key a boundary stands before
-- another exactly where it is the wider one by total_order, or as wide and first by its endpoints (`key_by_total_order`). The argument: such widths are finite with the
-- sign clear, and these compare as their bits. Assumes nothing.
use Rattle.std.specs.Prelude.{ℕ, ◌-◌, ◌*◌, ◌/◌, ◌%◌, ◌^◌, ◌<◌, ◌≡◌, refl, true, false, ◌&&◌, ◌||◌, leb, ltb, eqb}
use Rattle.std.proofs.Common.{arith, ap, ◌∙◌, inl, inr, lt-ltb, le-ltb, le-leb, eq-eqb, ne_eqb}
use Rattle.std.proofs.Math.Path.{sym}
use Rattle.std.proofs.Math.Bool.{not}
use Rattle.std.specs.Float.{binary64}
use Rattle.std.specs.Float.Ieee.{nan_bits}
use Rattle.std.proofs.lemmas.Bool.{lt-leb}
use Rattle.definitions.specs.Sort.{list_lt}
use Rattle.definitions.specs.Grid.{Boundary}
use Rattle.definitions.specs.Context.{endpoints_key}
use Rattle.definitions.specs.Refusals.{width_fits}
use Rattle.definitions.specs.Junctions.{boundary_key}
use Rattle.definitions.specs.TotalOrder.{is_negative, numbers_in_order, total_order}
use Rattle.laws.specs.NumberLaws.Comparisons.{le_or_lt}
use Rattle.laws.specs.FloatLaws.KeysAsBits.{below_or-level, lt_of_bits, eq_of_bits}
use Rattle.laws.specs.FloatLaws.WidthBits.{width-finite}

-- ---- what a pattern below that of the infinity has for its parts

sign_clear : (x : ℕ) → x < 2047 * 2 ^ 52 → is_negative x ≡ false
sign_clear x h = lt-leb (2 ^ 63) x (omega arith)

no_nan : (x : ℕ) → x < 2047 * 2 ^ 52 → nan_bits binary64 x ≡ false
unfolding nan_bits
no_nan x h = ap (λ t. t && not (eqb (x % 2 ^ 52) 0)) (ne_eqb (x % 2 ^ 63 / 2 ^ 52) 2047 (field x h))
  where
    field : (x : ℕ) → x < 2047 * 2 ^ 52 → x % 2 ^ 63 / 2 ^ 52 ≡ 2047 → ⊥
    field x h e = omega arith

-- ---- two such patterns

module _ (a b : ℕ) (ha : a < 2047 * 2 ^ 52) (hb : b < 2047 * 2 ^ 52) where
  numbers_as_bits : numbers_in_order a b ≡ leb a b
  unfolding numbers_in_order
  numbers_as_bits = (λ i. lt_of_bits a b ha hb i || (eq_of_bits a b ha hb i && (sign_clear a ha i || not (sign_clear b hb i)))) ∙ below_or-level a b

  total_as_bits : total_order a b ≡ leb a b
  unfolding total_order
  total_as_bits = rw (no_nan a ha, no_nan b hb) numbers_as_bits

-- ---- widths

module _ (a b : ℕ) (fa : width_fits a ≡ true) (fb : width_fits b ≡ true) where
  pub total_order_lem : total_order a b ≡ leb a b
  total_order_lem = total_as_bits a b (width-finite a fa) (width-finite b fb)

-- the first number of `boundary_key` is 2 ^ 64 less the bits
falls : (a b : ℕ) → a < 2047 * 2 ^ 52 → b < 2047 * 2 ^ 52 → ltb (2 ^ 64 - a) (2 ^ 64 - b) ≡ not (leb a b)
falls a b ha hb = elim (le_or_lt a b) [
  | inl h ↦ rw (le-ltb (2 ^ 64 - a) (2 ^ 64 - b) (omega arith), le-leb a b h) refl
  | inr l ↦ rw (lt-ltb (2 ^ 64 - a) (2 ^ 64 - b) (omega arith), lt-leb a b l) refl
]

level : (a b : ℕ) → a < 2047 * 2 ^ 52 → b < 2047 * 2 ^ 52 → eqb (2 ^ 64 - a) (2 ^ 64 - b) ≡ (leb a b && leb b a)
level a b ha hb = elim (le_or_lt a b) [
  | inl h ↦ elim (le_or_lt b a) [
    | inl k ↦ rw (eq-eqb (2 ^ 64 - a) (2 ^ 64 - b) (omega arith), le-leb a b h, le-leb b a k) refl
    | inr l ↦ rw (ne_eqb (2 ^ 64 - a) (2 ^ 64 - b) (λ e. omega (arith, e)), le-leb a b h, lt-leb b a l) refl
  ]
  | inr l ↦ rw (ne_eqb (2 ^ 64 - a) (2 ^ 64 - b) (λ e. omega (arith, e)), lt-leb a b l) refl
]

module _ (x y : Boundary) (fx : width_fits x.width_bits ≡ true) (fy : width_fits y.width_bits ≡ true) where
  -- x is wider than y, or neither is wider and its endpoints stand first
  pub key_by_total_order : list_lt (boundary_key x) (boundary_key y)
      ≡ (not (total_order x.width_bits y.width_bits)
      || ((total_order x.width_bits y.width_bits && total_order y.width_bits x.width_bits) && list_lt (endpoints_key x.endpoints) (endpoints_key y.endpoints)))
  unfolding list_lt boundary_key
  key_by_total_order =
      let a = x.width_bits in
      let b = y.width_bits in
      (λ i. falls a b (width-finite a fx) (width-finite b fy) i || (level a b (width-finite a fx) (width-finite b fy) i && list_lt (endpoints_key x.endpoints) (endpoints_key y.endpoints)))
      ∙ (λ i. not (sym (total_order_lem a b fx fy) i) || ((sym (total_order_lem a b fx fy) i && sym (total_order_lem b a fy fx) i) && list_lt (endpoints_key x.endpoints) (endpoints_key y.endpoints)))
