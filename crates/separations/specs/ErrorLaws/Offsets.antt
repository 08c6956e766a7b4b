-- The differences p - (a + t * d) whose hypotenuse is a distance from a segment: with t a double from 0 to 1 and whole p, a and d, each is off by at most 7 * 2
-- ^ -39 pixel, for three operations are rounded. Before them differences and products of whole numbers, which are exact (`Stands`). Assumes nothing.
use Rattle.std.specs.Prelude.{◌≡◌, refl, Bool, true, false, not, cond, ℕ, ◌+◌, ◌-◌, ◌*◌, ◌^◌, ◌≤◌, ◌<◌, T, ltb, Float}
use Rattle.std.proofs.Common.{sym, ap, ◌∙◌, subst, le_trans, le_refl, lt_of_le_of_lt, mul-one, zero-mul, mul-le-mul, mul-le-mul_right, add-le-add, arith, ltb→lt, nltb→le, lit≤, lit<, pow_pos}
use Rattle.std.specs.Float.{binary64}
use Rattle.std.specs.Float.Ieee.{unlike, round, sum, add, sub, mul}
use Rattle.std.specs.Float.Ieee.Back.{round_whole}
use Rattle.definitions.specs.Spans.{distance_between}
use Rattle.definitions.specs.Geometry.{float}
use Rattle.laws.specs.FloatLaws.Values.{Valued, Units, valued_again, add-value, sub-value, mul-value}
use Rattle.laws.specs.FloatLaws.WholeDoubles.{float_valued}
use Rattle.laws.specs.FloatLaws.Differences.{sub_is}
use Rattle.separations.specs.ErrorLaws.RoundingErrors.{Off, Close, round-close, close_neg, close-add}

-- ---- whole numbers: x is P - N, exactly

abbrev pub Signed : Bool → ℕ → ℕ → ℕ → Type 0
Signed false c P N = c + N ≡ P
Signed true c P N = c + P ≡ N

pub record Stands (x : Float) (P N most : ℕ) : Type 0 where
  pub parts : Valued 1 x
  pub is : Signed parts.sign parts.number P N
  pub upto : parts.number ≤ most

stands-round : (s : Bool) (v P N most : ℕ) → v ≤ most → most ≤ 2 ^ 53 → Signed s v P N → Stands (round binary64 s v 1) P N most
stands-round s v P N most h far k = record { parts = record { sign = s; number = v; value = round_whole binary64 s v (le_trans h far) }; is = k; upto = h }

sum-stands : (s t : Bool) (a b P N Q M most : ℕ) → a + b ≤ most → most ≤ 2 ^ 53 → Signed s a P N → Signed t b Q M → Stands (sum binary64 s a t b 1) (P + Q) (N + M) most
unfolding sum
sum-stands true true a b P N Q M most h far p q = stands-round true (a + b) (P + Q) (N + M) most h far (omega arith)
sum-stands false false a b P N Q M most h far p q = stands-round false (a + b) (P + Q) (N + M) most h far (omega arith)
sum-stands false true a b P N Q M most h far p q = go (ltb a b) (ltb→lt a b) (nltb→le a b)
  where
    go : (l : Bool) → (T l → a < b) → (T (not l) → b ≤ a) → Stands (cond l (round binary64 true (b - a) 1) (round binary64 false (a - b) 1)) (P + Q) (N + M) most
    go true y n = let z = y tt in stands-round true (b - a) (P + Q) (N + M) most (le_trans (omega arith) h) far (omega arith)
    go false y n = let z = n tt in stands-round false (a - b) (P + Q) (N + M) most (le_trans (omega arith) h) far (omega arith)
sum-stands true false a b P N Q M most h far p q = go (ltb a b) (ltb→lt a b) (nltb→le a b) (ltb b a) (ltb→lt b a) (nltb→le b a)
  where
    go : (l : Bool) → (T l → a < b) → (T (not l) → b ≤ a) → (g : Bool) → (T g → b < a) → (T (not g) → a ≤ b)
        → Stands (cond l (round binary64 false (b - a) 1) (round binary64 g (a - b) 1)) (P + Q) (N + M) most
    go true y n g y' n' = let z = y tt in stands-round false (b - a) (P + Q) (N + M) most (le_trans (omega arith) h) far (omega arith)
    go false y n true y' n' = let z = y' tt in stands-round true (a - b) (P + Q) (N + M) most (le_trans (omega arith) h) far (omega arith)
    go false y n false y' n' = let z = n tt in let z' = n' tt in stands-round false (a - b) (P + Q) (N + M) most (le_trans (omega arith) h) far (omega arith)

pub stands-add : {x y : Float} {P N Q M m m' : ℕ} → m + m' ≤ 2 ^ 53 → Stands x P N m → Stands y Q M m' → Stands (add binary64 x y) (P + Q) (N + M) (m + m')
stands-add {x} {y} {P} {N} {Q} {M} {m} {m'} far h k =
    subst (λ (z : Float). Stands z (P + Q) (N + M) (m + m')) (sym (add-value h.parts k.parts (pow_pos 0)))
    (sum-stands h.parts.sign k.parts.sign h.parts.number k.parts.number P N Q M (m + m') (add-le-add h.upto k.upto) far h.is k.is)

signed_mul : (s t : Bool) (a b P N Q M : ℕ) → Signed s a P N → Signed t b Q M → Signed (unlike s t) (a * b) (P * Q + N * M) (P * M + N * Q)
signed_mul false false a b P N Q M h k =
    let e : (a + N) * (b + M) ≡ P * Q = λ i. h i * k i in
    omega (arith, ap (λ (z : ℕ). z * M) h, ap (λ (z : ℕ). N * z) k)
signed_mul false true a b P N Q M h k =
    let e : (a + N) * (b + Q) ≡ P * M = λ i. h i * k i in
    omega (arith, ap (λ (z : ℕ). z * Q) h, ap (λ (z : ℕ). N * z) k)
signed_mul true false a b P N Q M h k =
    let e : (a + P) * (b + M) ≡ N * Q = λ i. h i * k i in
    omega (arith, ap (λ (z : ℕ). z * M) h, ap (λ (z : ℕ). P * z) k)
signed_mul true true a b P N Q M h k =
    let e : (a + P) * (b + Q) ≡ N * M = λ i. h i * k i in
    omega (arith, ap (λ (z : ℕ). z * Q) h, ap (λ (z : ℕ). P * z) k)

pub stands-mul : {x y : Float} {P N Q M m m' : ℕ} → m * m' ≤ 2 ^ 53 → Stands x P N m → Stands y Q M m' → Stands (mul binary64 x y) (P * Q + N * M) (P * M + N * Q) (m * m')
stands-mul {x} {y} {P} {N} {Q} {M} {m} {m'} far h k =
    subst (λ (z : Float). Stands z (P * Q + N * M) (P * M + N * Q) (m * m')) (sym (mul-value h.parts k.parts (pow_pos 0) (pow_pos 0)))
    (stands-round (unlike h.parts.sign k.parts.sign) (h.parts.number * k.parts.number) (P * Q + N * M) (P * M + N * Q) (m * m') (mul-le-mul h.upto k.upto) far
    (signed_mul h.parts.sign k.parts.sign h.parts.number k.parts.number P N Q M h.is k.is))

-- the difference of two naturals
pub stands-difference : (m n most : ℕ) → m ≤ most → n ≤ most → most ≤ 2 ^ 53 → Stands (sub binary64 (float m) (float n)) m n most
unfolding sum
stands-difference m n most hm hn far =
    subst (λ (z : Float). Stands z m n most) (sym (sub-value (float_valued m (le_trans hm far)) (float_valued n (le_trans hn far)) (pow_pos 0))) (go (ltb m n) (ltb→lt m n) (nltb→le m n))
  where
    go : (l : Bool) → (T l → m < n) → (T (not l) → n ≤ m) → Stands (cond l (round binary64 true (n - m) 1) (round binary64 false (m - n) 1)) m n most
    go true y k = let z = y tt in stands-round true (n - m) m n most (omega arith) far (omega arith)
    go false y k = let z = k tt in stands-round false (m - n) m n most (omega arith) far (omega arith)

-- ---- t, and t * d

-- from 0 to 1, in units
pub record Parameter (t : Float) : Type 0 where
  pub units : Units t
  pub le : units.number ≤ 2 ^ 1074
  pub sign : units.sign ≡ true → units.number ≡ 0

product-off : (s t : Bool) (c D P N : ℕ) → (s ≡ true → c ≡ 0) → Signed t D P N → Off (unlike s t) (c * D) (c * P) (c * N) 0
product-off false false c D P N z h = let e = ap (λ (x : ℕ). c * x) h in (omega arith, omega arith)
product-off false true c D P N z h = let e = ap (λ (x : ℕ). c * x) h in (omega arith, omega arith)
product-off true t c D P N z h = go (unlike true t) c (z refl)
  where
    go : (w : Bool) (c : ℕ) → c ≡ 0 → Off w (c * D) (c * P) (c * N) 0
    go true c e = (omega (arith, none D, none P, none N), omega (arith, none D, none P, none N))
      where
        none : (x : ℕ) → c * x ≡ 0
        none x = ap (λ (z : ℕ). z * x) e ∙ zero-mul x
    go false c e = (omega (arith, none D, none P, none N), omega (arith, none D, none P, none N))
      where
        none : (x : ℕ) → c * x ≡ 0
        none x = ap (λ (z : ℕ). z * x) e ∙ zero-mul x

-- at most 2 ^ 13 pixels
pub product-close : {t d : Float} {P N : ℕ} (p : Parameter t) → Stands d P N (2 ^ 13) → Close (mul binary64 t d) (p.units.number * P) (p.units.number * N) (0 + 2 ^ 1035) (2 ^ 1088)
product-close {t} {d} {P} {N} p h =
    let c = p.units.number in
    let D = h.parts.number in
    let most : c * D < 2 ^ 1088 = lt_of_le_of_lt (mul-le-mul p.le h.upto) (lit< tt) in
    subst (λ (z : Float). Close z (c * P) (c * N) (0 + 2 ^ 1035) (2 ^ 1088)) (sym (mul-value p.units h.parts (pow_pos 1074) (pow_pos 0)))
    (round-close (unlike p.units.sign h.parts.sign) (c * D) 1035 (c * P) (c * N) 0 (lit< tt) most (product-off p.units.sign h.parts.sign c D P N p.sign h.is))

-- ---- p - (a + t * d)

-- a whole number of pixels is exact
whole-close : (n : ℕ) → n ≤ 2 ^ 13 → Close (float n) (n * 2 ^ 1074) 0 0 (2 ^ 1087)
whole-close n h =
    let v = float_valued n (le_trans h (lit≤ tt)) in
    record {
      units = valued_again v (n * 2 ^ 1074) (2 ^ 1074) (pow_pos 0) (sym (mul-one (n * 2 ^ 1074)));
      off = (le_refl (n * 2 ^ 1074 + 0), by (n * 2 ^ 1074));
      upto = le_trans (mul-le-mul_right (2 ^ 1074) h) (lit≤ tt);
    }
  where
    by : (x : ℕ) → x ≤ x + 0 + 0
    by x = omega arith

-- in units, 7 * 2 ^ 1035
abbrev pub offset_error : ℕ
offset_error = 0 + (0 + (0 + 2 ^ 1035) + 2 ^ 1036) + 2 ^ 1037

module _ (p a : ℕ) (hp : p ≤ 2 ^ 13) (ha : a ≤ 2 ^ 13) {t d : Float} {P N : ℕ} (u : Parameter t) (h : Stands d P N (2 ^ 13)) where
  abbrev c : ℕ
  c = u.units.number

  pub offset_close : Close (sub binary64 (float p) (add binary64 (float a) (mul binary64 t d))) (p * 2 ^ 1074 + (0 + c * N)) (0 + (a * 2 ^ 1074 + c * P)) offset_error (2 ^ 1090)
  offset_close =
      subst (λ (z : Float). Close z (p * 2 ^ 1074 + (0 + c * N)) (0 + (a * 2 ^ 1074 + c * P)) offset_error (2 ^ 1090)) (sym (sub_is (float p) (add binary64 (float a) (mul binary64 t d))))
      (close-add 1037 (lit< tt) (lit< tt) (whole-close p hp) (close_neg (close-add 1036 (lit< tt) (lit< tt) (whole-close a ha) (product-close u h))))

-- the exact difference, for a = N, as the distance of p and the mean with weights 1 - t and t
pub offset_mean : (p U c A B : ℕ) → c ≤ U → distance_between (p * U + (0 + c * A)) (0 + (A * U + c * B)) ≡ distance_between (p * U) ((U - c) * A + c * B)
offset_mean p U c A B h = by (U - c) (omega arith)
  where
    by : (m : ℕ) → m + c ≡ U → distance_between (p * U + (0 + c * A)) (0 + (A * U + c * B)) ≡ distance_between (p * U) (m * A + c * B)
    by m e = last (p * U) (A * U) (m * A) (c * A) (c * B) (omega (arith, ap (λ (z : ℕ). A * z) e))
      where
        last : (x y z v w : ℕ) → y ≡ z + v → distance_between (x + (0 + v)) (0 + (y + w)) ≡ distance_between x (z + w)
        last x y z v w e = omega arith
