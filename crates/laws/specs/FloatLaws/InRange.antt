-- When a double is in the range of the hypotenuse, and what the operation answers for two such: number 0, and `hypot_of` as its value. Assumes nothing.
use Rattle.std.specs.Prelude.{◌≡◌, ◌⊎◌, ℕ, zero, suc, ◌*◌, ◌^◌, ◌≤◌, true, ◌&&◌, ◌||◌, leb, eqb, pos, Float}
use Rattle.std.proofs.Common.{sym, ap, ◌∙◌, inl, inr, le_trans, le_of_eq, mul_assoc, mul-le-mul_right, one-mul, zero-mul, zero-lt-suc, lit≤, pow_pos, le-leb, eq-eqb}
use Rattle.std.proofs.Math.Bool.{false, cond, or-true}
use Rattle.std.specs.Float.{nan, inf, fin}
use Rattle.std.specs.Float.Ieee.Exact.{HasValue}
use Rattle.definitions.specs.Hypotenuse.{hypot_of, in_range, hypot_value}
use Rattle.laws.specs.FloatLaws.Patterns.{magnitude_of}
use Rattle.laws.specs.FloatLaws.Values.{Units, valued_again}
use Rattle.laws.specs.FloatLaws.WholeDoubles.{Dyadic}

-- ---- of one double

in_bounds : (c : ℕ) → (c ≡ 0) ⊎ (2 ^ 1010 ≤ c) → c ≤ 2 ^ 1089 → (eqb c 0 || (leb (2 ^ 1010) c && leb c (2 ^ 1089))) ≡ true
in_bounds c (inl z) h = ap (λ b. b || (leb (2 ^ 1010) c && leb c (2 ^ 1089))) (eq-eqb c 0 z)
in_bounds c (inr l) h = (λ i. eqb c 0 || (le-leb (2 ^ 1010) c l i && le-leb c (2 ^ 1089) h i)) ∙ or-true (eqb c 0)

pub units-in_range : {x : Float} (p : Units x) → (p.number ≡ 0) ⊎ (2 ^ 1010 ≤ p.number) → p.number ≤ 2 ^ 1089 → in_range x ≡ true
unfolding in_range
units-in_range {x} p l h = go x p.value
  where
    go : (x : Float) → HasValue x p.sign p.number (2 ^ 1074) → in_range x ≡ true
    go nan v = absurd v
    go (inf t) v = absurd v
    go (fin t m e) v = ap (λ z. eqb z 0 || (leb (2 ^ 1010) z && leb z (2 ^ 1089))) (magnitude_of (fin t m e) p.sign p.number v) ∙ in_bounds p.number l h

-- a number of halves, up to 2 ^ 15
pub halves_in_range : {B : ℕ} {x : Float} → B ≤ 2 ^ 16 → Dyadic 1 B x → in_range x ≡ true
halves_in_range far h =
    let n = h.parts.number in
    units-in_range (valued_again h.parts (n * 2 ^ 1073) (2 ^ 1074) (pow_pos 1) (sym (mul_assoc n (2 ^ 1073) 2))) (least n)
    (mul-le-mul_right (2 ^ 1073) (le_trans h.upto far))
  where
    least : (n : ℕ) → (n * 2 ^ 1073 ≡ 0) ⊎ (2 ^ 1010 ≤ n * 2 ^ 1073)
    least zero = inl (zero-mul (2 ^ 1073))
    least (suc n) = inr (le_trans {m = 2 ^ 1073} (lit≤ tt) (le_trans (le_of_eq (sym (one-mul (2 ^ 1073)))) (mul-le-mul_right (2 ^ 1073) (zero-lt-suc n))))

-- ---- of two

abbrev pub BothInRange : Float → Float → Type 0
BothInRange x y = (in_range x ≡ true) × (in_range y ≡ true)

module _ (x y : Float) (h : BothInRange x y) where
  pub range-value : hypot_value x y ≡ hypot_of x y
  unfolding hypot_value
  range-value = λ i. cond (h.0 i && h.1 i) (hypot_of x y) (fin false 0 (pos 0))
