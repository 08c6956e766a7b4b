-- The part t of a segment that lies before a point's nearest point, as `point_segment_distance` has it: a quotient of whole numbers, with a divisor from 1 to
-- 2 ^ 27, brought between 0 and 1. It is zero, or at least 2 ^ -27 since the quotient is, and at most 1 by the clamp (`Part`). Assumes nothing.
use Rattle.std.specs.Prelude.{◌≡◌, refl, ◌⊎◌, ℕ, zero, suc, ◌+◌, ◌*◌, ◌^◌, ◌≤◌, ◌<◌, Bool, true, false, cond, Float}
use Rattle.std.proofs.Common.{sym, ◌∙◌, subst, inl, inr, zero-le, le_trans, le_of_eq, mul-one, one-mul, zero-mul, mul-le-mul_left, mul-le-mul_right, zero-lt-suc, arith, true≢false, lit≤, lit<, pow-add, pow_pos, ltb-false}
use Rattle.std.proofs.Math.Bool.{or-true}
use Rattle.std.specs.Bool.{beq}
use Rattle.std.specs.Float.{binary64}
use Rattle.std.specs.Float.Ieee.{unlike, round, div, lt, eq, below, level}
use Rattle.definitions.specs.Geometry.{float, clamp01}
use Rattle.laws.specs.FloatLaws.Values.{Units, valued_again, div_value, lt_value, eq_value}
use Rattle.laws.specs.FloatLaws.Rounding.{Rounded, rounded, rounded-zero}
use Rattle.laws.specs.FloatLaws.WholeDoubles.{Whole, float_valued}
use Rattle.laws.specs.FloatLaws.Differences.{Part}

-- 0.0 and 1.0
zero-units : Units (float 0)
zero-units = valued_again (float_valued 0 (lit≤ tt)) 0 (2 ^ 1074) (pow_pos 0) (zero-mul (2 ^ 1074))

one_units : Units (float 1)
one_units = valued_again (float_valued 1 (lit≤ tt)) (2 ^ 1074) (2 ^ 1074) (pow_pos 0) (one-mul (2 ^ 1074))

part-zero : Part (float 0)
unfolding zero-units
part-zero = record { units = zero-units; low = inl refl; high = zero-le }

part_one : Part (float 1)
unfolding one_units
part_one = record { units = one_units; low = inr (lit≤ tt); high = lit≤ tt }

-- ---- the clamp

clamped_high : (s : Bool) (c : ℕ) → below s c false 0 ≡ false → below false (2 ^ 1074) s c ≡ false → c ≤ 2 ^ 1074
clamped_high true c a b = none c (ltb-false 0 (c + 0) a)
  where
    none : (c : ℕ) {h : ℕ} → c + 0 ≤ 0 → c ≤ h
    none c l = omega arith
clamped_high false c a b = ltb-false (2 ^ 1074) c b

clamp_part : {q : Float} (u : Units q) → (u.number ≡ 0) ⊎ (2 ^ 1047 ≤ u.number) → Part (clamp01 q)
unfolding clamp01 zero-units one_units
clamp_part {q} u l = go (lt q (float 0)) (lt (float 1) q) (lt_value u zero-units (pow_pos 1074)) (lt_value one_units u (pow_pos 1074))
  where
    go : (x y : Bool) → x ≡ below u.sign u.number false 0 → y ≡ below false (2 ^ 1074) u.sign u.number → Part (cond x (float 0) (cond y (float 1) q))
    go true y a b = part-zero
    go false true a b = part_one
    go false false a b = record { units = u; low = l; high = clamped_high u.sign u.number (sym a) (sym b) }

-- ---- the quotient

least_quotient : {r : Float} (N M : ℕ) → M ≤ 2 ^ 27 → (x : Rounded N M 1101 r) → (x.units.number ≡ 0) ⊎ (2 ^ 1047 ≤ x.units.number)
least_quotient zero M h x = inl (rounded-zero x)
least_quotient (suc N) M h x =
    let one : 2 ^ 1074 ≤ suc N * 2 ^ 1074 = le_trans (le_of_eq (sym (one-mul (2 ^ 1074)))) (mul-le-mul_right (2 ^ 1074) (zero-lt-suc N)) in
    inr (x.from 1047 (le_trans (mul-le-mul_left (2 ^ 1047) h) (le_trans (le_of_eq (sym (pow-add 2 1047 27))) one)))

quotient-part : {x y : Float} (p : Whole (2 ^ 27) x) (q : Whole (2 ^ 27) y) → 0 < q.parts.number → Part (clamp01 (div binary64 x y))
quotient-part {x} {y} p q M =
    let s = unlike p.parts.sign q.parts.sign in
    let n = p.parts.number in
    let d = q.parts.number in
    let most : n * 2 ^ 1074 ≤ 2 ^ 1101 * d =
    le_trans (mul-le-mul_right (2 ^ 1074) p.upto) (le_trans (le_of_eq (sym (pow-add 2 27 1074) ∙ sym (mul-one (2 ^ 1101)))) (mul-le-mul_left (2 ^ 1101) M)) in
    let e : div binary64 x y ≡ round binary64 s n d = div_value p.parts q.parts (pow_pos 0) (pow_pos 0) M ∙ (λ i. round binary64 s (mul-one n i) (mul-one d i)) in
    let r : Rounded n d 1101 (div binary64 x y) = subst (Rounded n d 1101) (sym e) (rounded s n d 1101 M (lit< tt) most) in
    clamp_part r.units (least_quotient n d q.upto r)

-- with t zero for a divisor of zero
pub segment-part : {x y : Float} → Whole (2 ^ 27) x → Whole (2 ^ 27) y → Part (cond (eq y (float 0)) (float 0) (clamp01 (div binary64 x y)))
segment-part {x} {y} p q = go (eq y (float 0)) (eq_value q.parts (float_valued 0 (lit≤ tt)) (pow_pos 0))
  where
    some : (s : Bool) (n : ℕ) → false ≡ level s n false 0 → 0 < n
    some s zero e = absurd (true≢false (sym (e ∙ or-true (beq s false))))
    some s (suc n) e = zero-lt-suc n

    go : (z : Bool) → z ≡ level q.parts.sign q.parts.number false 0 → Part (cond z (float 0) (clamp01 (div binary64 x y)))
    go true e = part-zero
    go false e = quotient-part p q (some q.parts.sign q.parts.number e)
