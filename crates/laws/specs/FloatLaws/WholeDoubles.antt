-- Whole numbers and binary fractions as doubles. Of numerators below 2 ^ 53 sums, differences and products are exact, since a double has 53 digits and nothing
-- is dropped; `float` of numbers up to 2 ^ 53 is added, multiplied, subtracted and compared as the numbers are. Assumes nothing.
use Rattle.std.specs.Prelude.{◌≡◌, refl, ℕ, ◌+◌, ◌-◌, ◌*◌, ◌^◌, ◌≤◌, ◌<◌, Bool, ◌&&◌, cond, Float}
use Rattle.std.proofs.Math.Path.{sym, subst}
use Rattle.std.proofs.Common.{ap, ◌∙◌, le_trans, le_of_lt, lt_of_le_of_lt, lt_of_lt_of_le, mul-one, mul_assoc, mul-le-mul, mul-le-mul_right, arith, lit≤, pow-add, pow_pos, pow_mono, shl_lt}
use Rattle.std.proofs.Math.Bool.{true, false}
use Rattle.std.specs.Bool.{beq}
use Rattle.std.proofs.Math.Dec.{ltb}
use Rattle.std.specs.Float.Ieee.{binary64, unlike, round, sum, add, sub, mul, div, lt}
use Rattle.std.specs.Float.Ieee.Exact.{HasValue, round_exact}
use Rattle.std.specs.Float.Ieee.Back.{round_whole}
use Rattle.definitions.specs.Geometry.{float}
use Rattle.laws.specs.FloatLaws.Values.{Valued, valued_again, add-value, sub-value, mul-value, div_value, lt_value}

-- ---- x is ±number / 2 ^ i, and the number is at most B

pub record Dyadic (i B : ℕ) (x : Float) : Type 0 where
  pub parts : Valued (2 ^ i) x
  pub upto : parts.number ≤ B

-- a whole number of magnitude at most B
abbrev pub Whole : ℕ → Float → Type 0
Whole B x = Dyadic 0 B x

-- the same with the sign clear
pub record Unsigned (i B : ℕ) (x : Float) : Type 0 where
  pub number : ℕ
  pub upto : number ≤ B
  pub value : HasValue x false number (2 ^ i)

abbrev pub unsigned_valued : {i B : ℕ} {x : Float} → Unsigned i B x → Valued (2 ^ i) x
unsigned_valued h = record { sign = false; number = h.number; value = h.value }

pub signed : {i B : ℕ} {x : Float} → Unsigned i B x → Dyadic i B x
signed h = record { parts = unsigned_valued h; upto = h.upto }

-- a whole number is twice as many halves
pub whole_halves : {B : ℕ} {x : Float} → Unsigned 0 B x → Unsigned 1 (B * 2) x
whole_halves h =
    record {
      number = h.number * 2;
      upto = mul-le-mul_right 2 h.upto;
      value = (valued_again (unsigned_valued h) (h.number * 2) 2 (pow_pos 0) (sym (mul-one (h.number * 2)))).value;
    }

-- ---- exact results

round_dyadic : (s : Bool) (i n : ℕ) → i ≤ 1074 → n < 2 ^ 53 → HasValue (round binary64 s n (2 ^ i)) s n (2 ^ i)
round_dyadic s i n l h =
    round_exact binary64 s n (2 ^ i) n (1074 - i) (pow_pos i) h (lt_of_lt_of_le (shl_lt 53 (1074 - i) h) (pow_mono {i = 53 + (1074 - i)} {j = 2098} (far i)))
    (ap (λ (z : ℕ). n * z) (ap (λ (z : ℕ). 2 ^ z) (split i l) ∙ pow-add 2 (1074 - i) i) ∙ sym (mul_assoc n (2 ^ (1074 - i)) (2 ^ i)))
  where
    far : (i : ℕ) → 53 + (1074 - i) ≤ 2098
    far i = omega arith

    split : (i : ℕ) → i ≤ 1074 → 1074 ≡ 1074 - i + i
    split i l = omega arith

module _ {i B : ℕ} (l : i ≤ 1074) (far : B < 2 ^ 53) where
  dyadic_round : (s : Bool) (n : ℕ) → n ≤ B → Dyadic i B (round binary64 s n (2 ^ i))
  dyadic_round s n h = record { parts = record { sign = s; number = n; value = round_dyadic s i n l (lt_of_le_of_lt h far) }; upto = h }

  dyadic_sum : (s t : Bool) (a b : ℕ) → a + b ≤ B → Dyadic i B (sum binary64 s a t b (2 ^ i))
  unfolding sum
  dyadic_sum s t a b h = go (beq s t) (ltb a b)
    where
      go : (o l : Bool)
          → Dyadic i B (cond o (round binary64 s (a + b) (2 ^ i)) (cond l (round binary64 t (b - a) (2 ^ i)) (round binary64 (s && ltb b a) (a - b) (2 ^ i))))
      go true l = dyadic_round s (a + b) h
      go false true = dyadic_round t (b - a) (omega arith)
      go false false = dyadic_round (s && ltb b a) (a - b) (omega arith)

  -- with both signs clear the difference is at most the larger of the two
  pub difference_dyadic : {x y : Float} → Unsigned i B x → Unsigned i B y → Dyadic i B (sub binary64 x y)
  unfolding sum
  difference_dyadic p q =
      subst (Dyadic i B) (sym (sub-value (unsigned_valued p) (unsigned_valued q) (pow_pos i)))
      (go p.number q.number p.upto q.upto (ltb p.number q.number))
    where
      go : (a b : ℕ) → a ≤ B → b ≤ B → (l : Bool) → Dyadic i B (cond l (round binary64 true (b - a) (2 ^ i)) (round binary64 false (a - b) (2 ^ i)))
      go a b h k true = dyadic_round true (b - a) (omega arith)
      go a b h k false = dyadic_round false (a - b) (omega arith)

pub add_dyadic : {i A B : ℕ} {x y : Float} → Dyadic i A x → Dyadic i B y → i ≤ 1074 → A + B < 2 ^ 53 → Dyadic i (A + B) (add binary64 x y)
add_dyadic {i} {A} {B} p q l far =
    subst (Dyadic i (A + B)) (sym (add-value p.parts q.parts (pow_pos i)))
    (dyadic_sum l far p.parts.sign q.parts.sign p.parts.number q.parts.number (omega (arith, p.upto, q.upto)))

pub mul_dyadic : {i j A B : ℕ} {x y : Float} → Dyadic i A x → Dyadic j B y → i + j ≤ 1074 → A * B < 2 ^ 53 → Dyadic (i + j) (A * B) (mul binary64 x y)
mul_dyadic {i} {j} {A} {B} p q l far =
    let s = unlike p.parts.sign q.parts.sign in
    let n = p.parts.number * q.parts.number in
    subst (Dyadic (i + j) (A * B)) (sym (mul-value p.parts q.parts (pow_pos i) (pow_pos j) ∙ ap (round binary64 s n) (sym (pow-add 2 i j))))
    (dyadic_round l far s n (mul-le-mul p.upto q.upto))

-- ---- `float`

pub float_round : (n : ℕ) → float n ≡ round binary64 false n 1
unfolding float
float_round n = refl

pub float_value : (n : ℕ) → n ≤ 2 ^ 53 → HasValue (float n) false n 1
unfolding float
float_value n h = round_whole binary64 false n h

abbrev pub float_valued : (n : ℕ) → n ≤ 2 ^ 53 → Valued 1 (float n)
float_valued n h = record { sign = false; number = n; value = float_value n h }

pub float-unsigned : (B n : ℕ) → B ≤ 2 ^ 53 → n ≤ B → Unsigned 0 B (float n)
float-unsigned B n far h = record { number = n; upto = h; value = float_value n (le_trans h far) }

module _ (m n : ℕ) (hm : m ≤ 2 ^ 53) (hn : n ≤ 2 ^ 53) where
  pub add-float : add binary64 (float m) (float n) ≡ float (m + n)
  unfolding sum
  add-float = add-value (float_valued m hm) (float_valued n hn) (pow_pos 0) ∙ sym (float_round (m + n))

  pub lt_float : lt (float m) (float n) ≡ ltb m n
  lt_float = lt_value (float_valued m hm) (float_valued n hn) (pow_pos 0)

-- half of one
pub half-float : (B n : ℕ) → B < 2 ^ 53 → n ≤ B → Unsigned 1 B (div binary64 (float n) (float 2))
half-float B n far h =
    let l : n < 2 ^ 53 = lt_of_le_of_lt h far in
    let e : div binary64 (float n) (float 2) ≡ round binary64 false n 2 =
    div_value (float_valued n (le_of_lt l)) (float_valued 2 (lit≤ tt)) (pow_pos 0) (pow_pos 0) (pow_pos 1) ∙ ap (λ (z : ℕ). round binary64 false z 2) (mul-one n) in
    record { number = n; upto = h; value = subst (λ (x : Float). HasValue x false n 2) (sym e) (round_dyadic false 1 n (lit≤ tt) l) }
