-- An operation on finite doubles sees only what numbers they are, not how these are written (`Valued`): a sum, a product and a quotient round the fraction
-- that follows from the operands' fractions, and a comparison compares these. Sums and comparisons are stated for fractions of one denominator. Assumes nothing.
use Rattle.std.specs.Prelude.{◌≡◌, refl, ℕ, zero, suc, ◌+◌, ◌-◌, ◌*◌, ◌^◌, ◌≤◌, ◌<◌, Bool, true, false, not, ◌&&◌, ◌||◌, eqb, ℤ, Float}
use Rattle.std.proofs.Common.{sym, ◌∙◌, le_trans, le_of_eq, lt_of_lt_of_le, lt_irrefl, add-mul, zero-mul, mul_comm, mul_assoc, mul_left_comm, mul_right_comm, mul-pos, mul-le-mul_right, le_of_mul-le-mul_right}
use Rattle.std.proofs.Math.Path.{ap}
use Rattle.std.proofs.Math.Nat.{mul-sub, mul-mul-mul_comm, eq_of_mul-eq-mul_right}
use Rattle.std.specs.Bool.{beq}
use Rattle.std.proofs.Math.Bool.{cond}
use Rattle.std.proofs.Math.Dec.{ltb, eqb-suc-zero}
use Rattle.std.specs.Float.Ieee.{nan, binary64, up, down, unlike, round, neg, sum, add, sub, mul, div, below, level, lt, eq}
use Rattle.std.specs.Float.{inf, fin}
use Rattle.std.specs.Float.Ieee.Fits.{down_pos}
use Rattle.std.specs.Float.Ieee.Exact.{HasValue}
use Rattle.std.specs.Float.Ieee.Scale.{round_same}
use Rattle.std.specs.Float.Ieee.Positive.{first_pos}
use Rattle.laws.specs.NumberLaws.Comparisons.{SameOrder, ltb_same, eqb_same}

-- ---- two fractions X / k and Y / k, which are a / c and b / c

record Same (X Y k a b c : ℕ) : Type 0 where
  K : 0 < k
  C : 0 < c
  p : X * c ≡ a * k
  q : Y * c ≡ b * k

module _ {X Y k a b c : ℕ} (r : Same X Y k a b c) where
  swapped : Same Y X k b a c
  swapped = record { K = r.K; C = r.C; p = r.q; q = r.p }

  same_order : SameOrder X Y a b
  same_order = (
    (over k c r.K r.p r.q, over c k r.C (sym r.p) (sym r.q)),
    (over k c r.K r.q r.p, over c k r.C (sym r.q) (sym r.p)),
  )
    where
      over : {u v x y : ℕ} (w z : ℕ) → 0 < w → u * z ≡ x * w → v * z ≡ y * w → u ≤ v → x ≤ y
      over w z W e f h = le_of_mul-le-mul_right (le_trans (le_of_eq (sym e)) (le_trans (mul-le-mul_right z h) (le_of_eq f))) W

  sum-cross : (X + Y) * c ≡ (a + b) * k
  sum-cross = add-mul X Y c ∙ (λ i. r.p i + r.q i) ∙ sym (add-mul a b k)

  minus_cross : (X - Y) * c ≡ (a - b) * k
  minus_cross = out X Y c ∙ (λ i. r.p i - r.q i) ∙ sym (out a b k)
    where
      out : (x y z : ℕ) → (x - y) * z ≡ x * z - y * z
      out x y z = mul_comm (x - y) z ∙ mul-sub z x y ∙ (λ i. mul_comm z x i - mul_comm z y i)

  first_zero : Same X 0 k a 0 c
  first_zero = record { K = r.K; C = r.C; p = r.p; q = zero-mul c ∙ sym (zero-mul k) }

  zero-sum : Same 0 (X + Y) k 0 (a + b) c
  zero-sum = record { K = r.K; C = r.C; p = zero-mul c ∙ sym (zero-mul k); q = sum-cross }

module _ {X Y k a b c : ℕ} (r : Same X Y k a b c) where
  sum_same : (s t : Bool) → sum binary64 s X t Y k ≡ sum binary64 s a t b c
  unfolding sum
  sum_same s t =
      (λ i.
      cond (beq s t) (round_same binary64 s (X + Y) k (a + b) c r.K r.C (sum-cross r) i)
      (cond (ltb_same (same_order r) i) (round_same binary64 t (Y - X) k (b - a) c r.K r.C (minus_cross (swapped r)) i)
      (round_same binary64 (s && ltb Y X) (X - Y) k (a - b) c r.K r.C (minus_cross r) i)))
      ∙ ap (λ z. cond (beq s t) (round binary64 s (a + b) c) (cond (ltb a b) (round binary64 t (b - a) c) (round binary64 (s && z) (a - b) c)))
      (ltb_same (same_order (swapped r)))

  below_same : (s t : Bool) → below s X t Y ≡ below s a t b
  below_same false false = ltb_same (same_order r)
  below_same false true = refl
  below_same true false = ltb_same (same_order (zero-sum r))
  below_same true true = ltb_same (same_order (swapped r))

  level_same : (s t : Bool) → level s X t Y ≡ level s a t b
  level_same s t = λ i. eqb_same (same_order r) i && (beq s t || eqb_same (same_order (first_zero r)) i)

-- ---- doubles as fractions

-- x is ±number / c (and has that sign, if it is zero)
pub record Valued (c : ℕ) (x : Float) : Type 0 where
  pub sign : Bool
  pub number : ℕ
  pub value : HasValue x sign number c

-- in smallest doubles
abbrev pub Units : Float → Type 0
Units x = Valued (2 ^ 1074) x

pub again-value : (x : Float) (s : Bool) (a c b d : ℕ) → 0 < c → a * d ≡ b * c → HasValue x s a c → HasValue x s b d
again-value nan s a c b d C e h = h
again-value (inf t) s a c b d C e h = h
again-value (fin t m k) s a c b d C e h = (
  h.0,
  eq_of_mul-eq-mul_right c C (m * up k * d) (b * down k)
      (mul_right_comm (m * up k) d c ∙ ap (λ (z : ℕ). z * d) h.1 ∙ mul_right_comm a (down k) d ∙ ap (λ (z : ℕ). z * down k) e ∙ mul_right_comm b c (down k)),
)

-- the same fraction with another denominator
abbrev pub valued_again : {c : ℕ} {x : Float} (p : Valued c x) (b d : ℕ) → 0 < c → p.number * d ≡ b * c → Valued d x
valued_again {c} {x} p b d C e = record { sign = p.sign; number = b; value = again-value x p.sign p.number c b d C e p.value }

pub neg_value : (x : Float) (s : Bool) (a c : ℕ) → HasValue x s a c → HasValue (neg x) (not s) a c
unfolding neg
neg_value nan s a c h = h
neg_value (inf t) s a c h = h
neg_value (fin t m e) s a c h = (ap not h.0, h.1)

abbrev pub neg_valued : {c : ℕ} {x : Float} → Valued c x → Valued c (neg x)
neg_valued {c} {x} p = record { sign = not p.sign; number = p.number; value = neg_value x p.sign p.number c p.value }

-- how it is written
record Written (s : Bool) (a c : ℕ) (x : Float) : Type 0 where
  m : ℕ
  e : ℤ
  is : x ≡ fin s m e
  cross : m * up e * c ≡ a * down e

written : {c : ℕ} {x : Float} (p : Valued c x) → Written p.sign p.number c x
written {c} {x} p = go x p.value
  where
    go : (x : Float) → HasValue x p.sign p.number c → Written p.sign p.number c x
    go nan h = absurd h
    go (inf t) h = absurd h
    go (fin t m e) h = record { m = m; e = e; is = λ i. fin (h.0 i) m e; cross = h.1 }

-- ---- sums and comparisons

module _ {c : ℕ} {x y : Float} (p : Valued c x) (q : Valued c y) (C : 0 < c) where
  abbrev u : Written p.sign p.number c x
  u = written p

  abbrev v : Written q.sign q.number c y
  v = written q

  -- over the denominator of the sum
  over-both : Same (u.m * up u.e * down v.e) (v.m * up v.e * down u.e) (down u.e * down v.e) p.number q.number c
  over-both =
      record {
        K = mul-pos (down_pos u.e) (down_pos v.e);
        C = C;
        p = mul_right_comm (u.m * up u.e) (down v.e) c ∙ ap (λ (z : ℕ). z * down v.e) u.cross ∙ mul_assoc p.number (down u.e) (down v.e);
        q = mul_right_comm (v.m * up v.e) (down u.e) c
            ∙ ap (λ (z : ℕ). z * down u.e) v.cross
            ∙ mul_assoc q.number (down v.e) (down u.e)
            ∙ ap (λ (z : ℕ). q.number * z) (mul_comm (down v.e) (down u.e));
      }

  pub add-value : add binary64 x y ≡ sum binary64 p.sign p.number q.sign q.number c
  unfolding add
  add-value = (λ i. add binary64 (u.is i) (v.is i)) ∙ sum_same over-both p.sign q.sign

  pub lt_value : lt x y ≡ below p.sign p.number q.sign q.number
  unfolding lt
  lt_value = (λ i. lt (u.is i) (v.is i)) ∙ below_same over-both p.sign q.sign

  pub eq_value : eq x y ≡ level p.sign p.number q.sign q.number
  unfolding eq
  eq_value = (λ i. eq (u.is i) (v.is i)) ∙ level_same over-both p.sign q.sign

pub sub-value : {c : ℕ} {x y : Float} (p : Valued c x) (q : Valued c y) → 0 < c → sub binary64 x y ≡ sum binary64 p.sign p.number (not q.sign) q.number c
unfolding sub
sub-value p q C = add-value p (neg_valued q) C

-- ---- products and quotients

module _ {c d : ℕ} {x y : Float} (p : Valued c x) (q : Valued d y) (C : 0 < c) (D : 0 < d) where
  abbrev s : Bool
  s = unlike p.sign q.sign

  pub mul-value : mul binary64 x y ≡ round binary64 s (p.number * q.number) (c * d)
  unfolding mul
  mul-value =
      let u = written p in
      let v = written q in
      let x = u.m * up u.e in
      let y = v.m * up v.e in
      let e : x * y * (c * d) ≡ p.number * q.number * (down u.e * down v.e) =
      mul-mul-mul_comm x y c d ∙ (λ i. u.cross i * v.cross i) ∙ mul-mul-mul_comm p.number (down u.e) q.number (down v.e) in
      (λ i. mul binary64 (u.is i) (v.is i))
      ∙ round_same binary64 s (x * y) (down u.e * down v.e) (p.number * q.number) (c * d) (mul-pos (down_pos u.e) (down_pos v.e)) (mul-pos C D) e

  pub div_value : 0 < q.number → div binary64 x y ≡ round binary64 s (p.number * d) (q.number * c)
  div_value B =
      let u = written p in
      let v = written q in
      let x = u.m * up u.e in
      let y = v.m * up v.e in
      let some : 0 < y = first_pos y d (lt_of_lt_of_le (mul-pos B (down_pos v.e)) (le_of_eq (sym v.cross))) in
      let e : x * down v.e * (q.number * c) ≡ p.number * d * (y * down u.e) =
      across x (down v.e) q.number c ∙ (λ i. u.cross i * sym v.cross i) ∙ across p.number (down u.e) y d in
      (λ i. div binary64 (u.is i) (v.is i))
      ∙ rounds u.m u.e v.m v.e (first_pos v.m (up v.e) some)
      ∙ round_same binary64 s (x * down v.e) (y * down u.e) (p.number * d) (q.number * c) (mul-pos some (down_pos u.e)) (mul-pos B C) e
    where
      rounds : (m : ℕ) (e : ℤ) (n : ℕ) (k : ℤ) → 0 < n
          → div binary64 (fin p.sign m e) (fin q.sign n k) ≡ round binary64 s (m * up e * down k) (n * up k * down e)
      rounds m e zero k h = absurd (lt_irrefl 0 h)
      rounds m e (suc n) k h =
          unfold div in
          ap (λ z. cond z (cond (eqb m 0) nan (inf s)) (round binary64 s (m * up e * down k) (suc n * up k * down e))) (eqb-suc-zero n)

      across : (u v w z : ℕ) → u * v * (w * z) ≡ u * z * (w * v)
      across u v w z = simp (mul_assoc, mul_comm, mul_left_comm) refl
