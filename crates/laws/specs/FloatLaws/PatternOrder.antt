-- A larger pattern is that of a larger double: the next pattern has one more in the fraction, or, after the last fraction, the next exponent with the fraction 0.
-- So a range of magnitudes is one of patterns (`in_range_lem`). Assumes nothing.
use Rattle.std.specs.Prelude.{◌≡◌, refl, ◌⊎◌, ℕ, zero, suc, ◌+◌, ◌-◌, ◌*◌, ◌/◌, ◌%◌, ◌^◌, ◌≤◌, ◌<◌, Bool, true, false, ◌&&◌, ◌||◌, T, leb, eqb, Float}
use Rattle.std.proofs.Common.{sym, ap, ◌∙◌, subst, inl, inr, mul-lt-mul_of_pos_right, lt_of_not-le, not-le_of_lt, le_of_eq, le_of_lt, eq-or-lt_of_le, mul_assoc, lt_trans, le_of_suc-le-suc, arith, lit<, lit≤, pow_pos}
use Rattle.std.proofs.Math.Nat.{pow-succ'}
use Rattle.std.specs.Float.{nan, inf, fin, binary64}
use Rattle.std.specs.Float.Ieee.{fits, to_bits}
use Rattle.definitions.specs.Hypotenuse.{magnitude, in_range}
use Rattle.definitions.specs.Nearest.{pattern_magnitude}
use Rattle.laws.specs.NumberLaws.Comparisons.{le_or_lt, SameOrder, leb_same, eqb_same}
use Rattle.laws.specs.FloatLaws.Patterns.{magnitude-low, magnitude-normal, pattern_of, read}

-- ---- the next pattern

same_exponent : (b : ℕ) → b % 2 ^ 52 < 2 ^ 52 - 1 → ((b + 1) % 2 ^ 52 ≡ b % 2 ^ 52 + 1) × ((b + 1) / 2 ^ 52 ≡ b / 2 ^ 52)
same_exponent b h = (omega arith, omega arith)

next_exponent : (b : ℕ) → 2 ^ 52 ≤ b → b % 2 ^ 52 ≡ 2 ^ 52 - 1 → ((b + 1) % 2 ^ 52 ≡ 0) × ((b + 1) / 2 ^ 52 - 1 ≡ suc (b / 2 ^ 52 - 1))
next_exponent b l h = (omega arith, omega arith)

last_or : (x : ℕ) → x < 2 ^ 52 → (x ≡ 2 ^ 52 - 1) ⊎ (x < 2 ^ 52 - 1)
last_or x h = eq-or-lt_of_le (e x h)
  where
    e : (x : ℕ) → x < 2 ^ 52 → x ≤ 2 ^ 52 - 1
    e x h = omega arith

next_normal : (b : ℕ) → 2 ^ 52 ≤ b → pattern_magnitude b < pattern_magnitude (b + 1)
next_normal b h = subst (λ (z : ℕ). z < pattern_magnitude (b + 1)) (sym (magnitude-normal b h)) (subst (λ (z : ℕ). (2 ^ 52 + b % 2 ^ 52) * 2 ^ (b / 2 ^ 52 - 1) < z) (sym (magnitude-normal (b + 1) (omega arith))) (go (last_or (b % 2 ^ 52) (omega arith))))
  where
    go : (b % 2 ^ 52 ≡ 2 ^ 52 - 1) ⊎ (b % 2 ^ 52 < 2 ^ 52 - 1) → (2 ^ 52 + b % 2 ^ 52) * 2 ^ (b / 2 ^ 52 - 1) < (2 ^ 52 + (b + 1) % 2 ^ 52) * 2 ^ ((b + 1) / 2 ^ 52 - 1)
    go (inl e) =
        let t = next_exponent b h e in
        subst (λ (z : ℕ). (2 ^ 52 + b % 2 ^ 52) * 2 ^ (b / 2 ^ 52 - 1) < z)
        (mul_assoc (2 ^ 52) 2 (2 ^ (b / 2 ^ 52 - 1))
        ∙ ap (λ (z : ℕ). 2 ^ 52 * z) (sym (pow-succ' 2 (b / 2 ^ 52 - 1)))
        ∙ ap (λ (z : ℕ). 2 ^ 52 * 2 ^ z) (sym t.1)
        ∙ ap (λ (z : ℕ). (2 ^ 52 + z) * 2 ^ ((b + 1) / 2 ^ 52 - 1)) (sym t.0))
        (mul-lt-mul_of_pos_right (omega arith) (pow_pos (b / 2 ^ 52 - 1)))
    go (inr l) =
        let t = same_exponent b l in
        subst (λ (z : ℕ). (2 ^ 52 + b % 2 ^ 52) * 2 ^ (b / 2 ^ 52 - 1) < z)
        (ap (λ (z : ℕ). (2 ^ 52 + (b % 2 ^ 52 + 1)) * 2 ^ (z - 1)) (sym t.1) ∙ ap (λ (z : ℕ). (2 ^ 52 + z) * 2 ^ ((b + 1) / 2 ^ 52 - 1)) (sym t.0))
        (mul-lt-mul_of_pos_right (omega arith) (pow_pos (b / 2 ^ 52 - 1)))

next_low : (b : ℕ) → b < 2 ^ 52 → pattern_magnitude b < pattern_magnitude (b + 1)
next_low b h = elim (last_or b h) [
  | inl e ↦
      subst (λ (z : ℕ). pattern_magnitude z < pattern_magnitude (z + 1)) (sym e)
      (subst (λ (z : ℕ). z < pattern_magnitude (2 ^ 52)) (sym (magnitude-low (2 ^ 52 - 1) (lit< tt))) (subst (λ (z : ℕ). 2 ^ 52 - 1 < z) (sym (magnitude-normal (2 ^ 52) (lit≤ tt))) (lit< tt)))
  | inr l ↦ subst (λ (z : ℕ). z < pattern_magnitude (b + 1)) (sym (magnitude-low b h)) (subst (λ (z : ℕ). b < z) (sym (magnitude-low (b + 1) (omega arith))) (omega arith))
]

next : (b : ℕ) → pattern_magnitude b < pattern_magnitude (b + 1)
next b = elim (le_or_lt (2 ^ 52) b) [ inl h ↦ next_normal b h | inr h ↦ next_low b h ]

-- ---- any two patterns

later : (b d : ℕ) → pattern_magnitude b < pattern_magnitude (b + suc d)
later b zero = next b
later b (suc d) = lt_trans (later b d) (subst (λ (z : ℕ). pattern_magnitude (b + suc d) < pattern_magnitude z) (e b d) (next (b + suc d)))
  where
    e : (b d : ℕ) → b + suc d + 1 ≡ b + suc (suc d)
    e b d = omega arith

pub magnitude_lt : (a b : ℕ) → a < b → pattern_magnitude a < pattern_magnitude b
magnitude_lt a b h = subst (λ (z : ℕ). pattern_magnitude a < pattern_magnitude z) (e a b h) (later a (b - suc a))
  where
    e : (a b : ℕ) → a < b → a + suc (b - suc a) ≡ b
    e a b h = omega arith

pub magnitude-le : (a b : ℕ) → a ≤ b → pattern_magnitude a ≤ pattern_magnitude b
magnitude-le a b h = elim (eq-or-lt_of_le h) [ inl e ↦ le_of_eq (ap pattern_magnitude e) | inr l ↦ le_of_lt (magnitude_lt a b l) ]

pub magnitude-le-back : (a b : ℕ) → pattern_magnitude a ≤ pattern_magnitude b → a ≤ b
magnitude-le-back a b h = le_of_suc-le-suc (lt_of_not-le (λ (g : suc b ≤ a). not-le_of_lt (magnitude_lt b a g) h))

pub magnitude-order : (a b : ℕ) → SameOrder (pattern_magnitude a) (pattern_magnitude b) a b
magnitude-order a b = ((magnitude-le-back a b, magnitude-le a b), (magnitude-le-back b a, magnitude-le b a))

-- ---- the range

-- the pattern is that of zero, or from that of 2 ^ -64 to that of 2 ^ 15
abbrev pub pattern_in_range : ℕ → Bool
pattern_in_range b = eqb b 0 || (leb (959 * 2 ^ 52) b && leb b (1038 * 2 ^ 52))

ends : (pattern_magnitude (959 * 2 ^ 52) ≡ 2 ^ 1010) × (pattern_magnitude (1038 * 2 ^ 52) ≡ 2 ^ 1089) × (pattern_magnitude 0 ≡ 0)
unfolding pattern_magnitude
ends = (refl, refl, refl)

pub in_range_lem : (x : Float) → T (fits binary64 x) → in_range x ≡ pattern_in_range (pattern_of x)
unfolding in_range pattern_of to_bits
in_range_lem nan f = refl
in_range_lem (inf true) f = refl
in_range_lem (inf false) f = refl
in_range_lem (fin s m e) f = at (magnitude (fin s m e)) (pattern_of (fin s m e)) (read s m e f).0
  where
    at : (c b : ℕ) → c ≡ pattern_magnitude b → (eqb c 0 || (leb (2 ^ 1010) c && leb c (2 ^ 1089))) ≡ pattern_in_range b
    at c b q =
        ap (λ (z : ℕ). eqb z 0 || (leb (2 ^ 1010) z && leb z (2 ^ 1089))) q
        ∙ (λ i. eqb (pattern_magnitude b) (sym ends.2 i) || (leb (sym ends.0 i) (pattern_magnitude b) && leb (pattern_magnitude b) (sym ends.1 i)))
        ∙ (λ i. eqb_same (magnitude-order b 0) i || (leb_same (magnitude-order (959 * 2 ^ 52) b) i && leb_same (magnitude-order b (1038 * 2 ^ 52)) i))
