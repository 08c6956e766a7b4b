-- The part t of a segment before the nearest point, as `point_segment_distance` has it, against the exact foot k / n: a quotient of whole numbers, rounded once
-- and brought between 0 and 1. It is off by at most 2 ^ -52, and by nothing where the foot is an end. Assumes nothing.
use Rattle.std.specs.Prelude.{◌≡◌, refl, Bool, true, false, ◌&&◌, ◌||◌, cond, ℕ, ◌+◌, ◌-◌, ◌*◌, ◌^◌, ◌≤◌, ◌<◌, min, ltb, eqb, Float}
use Rattle.std.proofs.Common.{sym, ap, ◌∙◌, subst, inl, inr, true≢false, zero-le, le_trans, le_of_eq, le_refl, le_of_lt, le_antisymm, lt_of_le_of_lt, lt_of_lt_of_le, not-le_of_lt, mul-one, one-mul, zero-mul, mul_comm, mul-le-mul_left, mul-le-mul_right, mul-lt-mul_of_pos_right, arith, lit≤, lit<, pow_pos, ltb-true, ltb-false, eqb-true}
use Rattle.std.specs.Bool.{beq}
use Rattle.std.proofs.lemmas.Bool.{false≢true}
use Rattle.std.proofs.Math.Bool.{or-true}
use Rattle.std.specs.Float.{binary64}
use Rattle.std.specs.Float.Ieee.{unlike, round, div, lt, eq, level}
use Rattle.std.specs.Float.Ieee.Exact.{HasValue}
use Rattle.definitions.specs.Geometry.{float, clamp01}
use Rattle.laws.specs.ListLaws.Tests.{both}
use Rattle.laws.specs.FloatLaws.Values.{Units, valued_again, lt_value, eq_value, div_value}
use Rattle.laws.specs.FloatLaws.WholeDoubles.{float_valued}
use Rattle.laws.specs.FloatLaws.Patterns.{magnitude_of}
use Rattle.laws.specs.FloatLaws.Rounding.{rounded}
use Rattle.laws.specs.NumberLaws.Comparisons.{le_or_lt}
use Rattle.separations.specs.ErrorLaws.RoundingErrors.{Rounds, rounds}
use Rattle.separations.specs.ErrorLaws.Offsets.{Parameter, Stands, Signed}

-- t is off k / n by at most 2 ^ -52
pub record Placed (t : Float) (n k : ℕ) : Type 0 where
  pub parameter : Parameter t
  pub high : parameter.units.number * n ≤ k * 2 ^ 1074 + 2 ^ 1022 * n
  pub low : k * 2 ^ 1074 ≤ parameter.units.number * n + 2 ^ 1022 * n

-- ---- 0.0 and 1.0

abbrev zero-units : Units (float 0)
zero-units = valued_again (float_valued 0 (lit≤ tt)) 0 (2 ^ 1074) (pow_pos 0) (zero-mul (2 ^ 1074))

abbrev one_units : Units (float 1)
one_units = valued_again (float_valued 1 (lit≤ tt)) (2 ^ 1074) (2 ^ 1074) (pow_pos 0) (one-mul (2 ^ 1074))

pub placed-zero : (n k : ℕ) → k ≡ 0 → Placed (float 0) n k
placed-zero n k e =
    record {
      parameter = record { units = zero-units; le = zero-le; sign = λ z. refl };
      high = le_trans (le_of_eq (zero-mul n)) zero-le;
      low = le_trans (le_of_eq (ap (λ (z : ℕ). z * 2 ^ 1074) e ∙ zero-mul (2 ^ 1074))) zero-le;
    }

placed_one : (n k : ℕ) → k ≡ n → Placed (float 1) n k
placed_one n k e =
    record {
      parameter = record { units = one_units; le = le_refl (2 ^ 1074); sign = λ z. absurd (false≢true z) };
      high = le_trans (le_of_eq (mul_comm (2 ^ 1074) n ∙ ap (λ (z : ℕ). z * 2 ^ 1074) (sym e))) (more (k * 2 ^ 1074) (2 ^ 1022 * n));
      low = le_trans (le_of_eq (ap (λ (z : ℕ). z * 2 ^ 1074) e ∙ mul_comm n (2 ^ 1074))) (more (2 ^ 1074 * n) (2 ^ 1022 * n));
    }
  where
    more : (x y : ℕ) → x ≤ x + y
    more x y = omega arith

-- ---- the quotient d / n, and its place

module _ (s : Bool) (d n : ℕ) (N : 0 < n) (hd : d ≤ 2 ^ 27) where
  abbrev q : Float
  q = round binary64 s d n

  -- at most 2 ^ 27
  any : Rounds s d n 1049 q
  any = rounds s d n 1049 N (lit< tt) (lt_of_le_of_lt (mul-le-mul_right (2 ^ 1074) hd) (lt_of_lt_of_le (lit< tt) (le_trans (le_of_eq (sym (mul-one (2 ^ 1102)))) (mul-le-mul_left (2 ^ 1102) N))))

  abbrev c : ℕ
  c = any.number

  abbrev q-units : Units q
  q-units = record { sign = s; number = c; value = any.value }

  same_number : (m : ℕ) (t : Bool) → HasValue q t m (2 ^ 1074) → m ≡ c
  same_number m t v = sym (magnitude_of q t m v) ∙ magnitude_of q s c any.value

  at_least : n ≤ d → 2 ^ 1074 ≤ c
  at_least h =
      let r = rounded s d n 1101 N (lit< tt) (le_trans (mul-le-mul_right (2 ^ 1074) hd) (le_trans (le_of_eq (sym (mul-one (2 ^ 1101)))) (mul-le-mul_left (2 ^ 1101) N))) in
      subst (λ (z : ℕ). 2 ^ 1074 ≤ z) (same_number r.units.number r.units.sign r.units.value) (r.from 1074 (le_trans (mul-le-mul_left (2 ^ 1074) h) (le_of_eq (mul_comm (2 ^ 1074) d))))

  at_most : d ≤ n → c ≤ 2 ^ 1074
  at_most h =
      let r = rounded s d n 1074 N (lit< tt) (le_trans (mul-le-mul_right (2 ^ 1074) h) (le_of_eq (mul_comm n (2 ^ 1074)))) in
      subst (λ (z : ℕ). z ≤ 2 ^ 1074) (same_number r.units.number r.units.sign r.units.value) r.upto

  placed-quotient : d ≤ n → (s ≡ true → c ≡ 0) → Placed q n d
  placed-quotient h z =
      let r = rounds s d n 1022 N (lit< tt) (lt_of_le_of_lt (mul-le-mul_right (2 ^ 1074) h) (lt_of_le_of_lt (le_of_eq (mul_comm n (2 ^ 1074))) (mul-lt-mul_of_pos_right (lit< tt) N))) in
      let e : r.number ≡ c = same_number r.number s r.value in
      record {
        parameter = record { units = q-units; le = at_most h; sign = z };
        high = subst (λ (z : ℕ). z * n ≤ d * 2 ^ 1074 + 2 ^ 1022 * n) e r.high;
        low = subst (λ (z : ℕ). d * 2 ^ 1074 ≤ z * n + 2 ^ 1022 * n) e r.low;
      }

-- k is d brought between 0 and n
abbrev pub Brought : Bool → ℕ → ℕ → ℕ → Type 0
Brought false d n k = k ≡ min d n
Brought true d n k = k ≡ 0

pub placed_clamped : (s : Bool) (d n k : ℕ) → 0 < n → d ≤ 2 ^ 27 → Brought s d n k → Placed (clamp01 (round binary64 s d n)) n k
unfolding clamp01
placed_clamped true d n k N hd e = go (lt x (float 0)) (lt (float 1) x) (lt_value (q-units true d n N hd) zero-units (pow_pos 1074)) (lt_value one_units (q-units true d n N hd) (pow_pos 1074))
  where
    x : Float
    x = round binary64 true d n

    w : ℕ
    w = c true d n N hd

    none : (w : ℕ) → w + 0 ≤ 0 → w ≡ 0
    none w h = omega arith

    stays : w ≡ 0 → Placed x n k
    stays z =
        record {
          parameter = record { units = q-units true d n N hd; le = le_trans (le_of_eq z) zero-le; sign = λ _. z };
          high = le_trans (le_of_eq (ap (λ (z : ℕ). z * n) z ∙ zero-mul n)) zero-le;
          low = le_trans (le_of_eq (ap (λ (z : ℕ). z * 2 ^ 1074) e ∙ zero-mul (2 ^ 1074))) zero-le;
        }

    go : (a b : Bool) → a ≡ ltb 0 (w + 0) → b ≡ false → Placed (cond a (float 0) (cond b (float 1) x)) n k
    go true b f g = placed-zero n k e
    go false true f g = absurd (true≢false g)
    go false false f g = stays (none w (ltb-false 0 (w + 0) (sym f)))
placed_clamped false d n k N hd e = go (lt x (float 0)) (lt (float 1) x) (lt_value (q-units false d n N hd) zero-units (pow_pos 1074)) (lt_value one_units (q-units false d n N hd) (pow_pos 1074))
  where
    x : Float
    x = round binary64 false d n

    w : ℕ
    w = c false d n N hd

    first : (d n : ℕ) → d ≤ n → min d n ≡ d
    first d n h = omega arith

    last : (d n : ℕ) → n < d → min d n ≡ n
    last d n h = omega arith

    more : (x y : ℕ) → x ≤ x + y
    more x y = omega arith

    level_one : w ≡ 2 ^ 1074 → k ≡ n → Placed x n k
    level_one z e =
        record {
          parameter = record { units = q-units false d n N hd; le = le_of_eq z; sign = λ y. absurd (false≢true y) };
          high = le_trans (le_of_eq (ap (λ (z : ℕ). z * n) z ∙ mul_comm (2 ^ 1074) n ∙ ap (λ (z : ℕ). z * 2 ^ 1074) (sym e))) (more (k * 2 ^ 1074) (2 ^ 1022 * n));
          low = le_trans (le_of_eq (ap (λ (z : ℕ). z * 2 ^ 1074) e ∙ mul_comm n (2 ^ 1074) ∙ ap (λ (z : ℕ). z * n) (sym z))) (more (w * n) (2 ^ 1022 * n));
        }

    go : (a b : Bool) → a ≡ ltb w 0 → b ≡ ltb (2 ^ 1074) w → Placed (cond a (float 0) (cond b (float 1) x)) n k
    go true b f g = absurd (not-le_of_lt (ltb-true w 0 (sym f)) zero-le)
    go false true f g = elim (le_or_lt d n) [
      | inl h ↦ absurd (not-le_of_lt (ltb-true (2 ^ 1074) w (sym g)) (at_most false d n N hd h))
      | inr h ↦ placed_one n k (e ∙ last d n h)
    ]
    go false false f g = elim (le_or_lt d n) [
      | inl h ↦ subst (λ (k : ℕ). Placed x n k) (sym (e ∙ first d n h)) (placed-quotient false d n N hd h (λ z. absurd (false≢true z)))
      | inr h ↦ level_one (le_antisymm (ltb-false (2 ^ 1074) w (sym g)) (at_least false d n N hd (le_of_lt h))) (e ∙ last d n h)
    ]

-- ---- t

-- x is d of either sign, y is n, and k is the foot
pub placed-part : {x y : Float} {P N P' N' : ℕ} (n k : ℕ) → Stands x P N (2 ^ 27) → Stands y P' N' (2 ^ 27) → n + N' ≡ P' → k ≡ min (P - N) n → 0 < n
    → Placed (cond (eq y (float 0)) (float 0) (clamp01 (div binary64 x y))) n k
placed-part {x} {y} {P} {N} {P'} {N'} n k h g e f z = go (eq y (float 0)) (eq_value g.parts (float_valued 0 (lit≤ tt)) (pow_pos 0))
  where
    is : (s : Bool) (c : ℕ) → Signed s c P' N' → (c ≡ n) × (s ≡ false)
    is true c w = absurd (omega arith)
    is false c w = (omega arith, refl)

    number : g.parts.number ≡ n
    number = (is g.parts.sign g.parts.number g.is).0

    positive : g.parts.sign ≡ false
    positive = (is g.parts.sign g.parts.number g.is).1

    brought : (s : Bool) (d : ℕ) → Signed s d P N → Brought (unlike s false) d n k
    brought true d w = f ∙ omega arith
    brought false d w = f ∙ omega arith

    quotient : div binary64 x y ≡ round binary64 (unlike h.parts.sign false) h.parts.number n
    quotient =
        div_value h.parts g.parts (pow_pos 0) (pow_pos 0) (subst (λ (z : ℕ). 0 < z) (sym number) z)
        ∙ (λ i. round binary64 (unlike h.parts.sign (positive i)) (mul-one h.parts.number i) ((mul-one g.parts.number ∙ number) i))

    go : (b : Bool) → b ≡ level g.parts.sign g.parts.number false 0 → Placed (cond b (float 0) (clamp01 (div binary64 x y))) n k
    go true l = let w = eqb-true g.parts.number 0 (both (eqb g.parts.number 0) _ (sym l)).0 in absurd (omega (arith, number, w))
    go false l = subst (λ (w : Float). Placed (clamp01 w) n k) (sym quotient) (placed_clamped (unlike h.parts.sign false) h.parts.number n k z h.upto (brought h.parts.sign h.parts.number h.is))

-- of a segment without length
pub placed-flat : (x : Float) {y : Float} {P' N' : ℕ} (k : ℕ) → Stands y P' N' (2 ^ 27) → N' ≡ P' → k ≡ 0 → Placed (cond (eq y (float 0)) (float 0) (clamp01 (div binary64 x y))) 1 k
placed-flat x {y} {P'} {N'} k g e f =
    subst (λ (b : Bool). Placed (cond b (float 0) (clamp01 (div binary64 x y))) 1 k) (sym (eq_value g.parts (float_valued 0 (lit≤ tt)) (pow_pos 0) ∙ equal g.parts.sign g.parts.number (is g.parts.sign g.parts.number g.is))) (placed-zero 1 k f)
  where
    is : (s : Bool) (c : ℕ) → Signed s c P' N' → c ≡ 0
    is true c w = omega arith
    is false c w = omega arith

    equal : (s : Bool) (c : ℕ) → c ≡ 0 → level s c false 0 ≡ true
    equal s c z = (λ i. eqb (z i) 0 && (beq s false || eqb (z i) 0)) ∙ or-true (beq s false)
