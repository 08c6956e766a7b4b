-- The least of four squared distances, each of an end and its foot on the other segment, is the square of the distance of two segments that share no point
-- (`apart-exact`), and 0 of two that do (`meet-exact`). The square is determined, as a fraction (`exact_unique`), and may be written otherwise (`exact-again`).
-- Assumes nothing.
use Rattle.std.specs.Prelude.{◌≡◌, refl, ◌⊎◌, Bool, true, false, cond, ℕ, ◌+◌, ◌*◌, ◌≤◌, ◌<◌}
use Rattle.std.proofs.Common.{sym, ap, ◌∙◌, inl, inr, zero-le, le_trans, le_of_eq, le_of_lt, le_antisymm, mul-le-mul_right, mul_right_comm, mul_comm, mul-pos, le_of_mul-le-mul_right, zero-lt-suc, le_refl, arith, leb-true, leb-false}
use Rattle.std.proofs.Math.Nat.{eq_of_mul-eq-mul_right}
use Rattle.definitions.specs.Grid.{Position, Segment}
use Rattle.definitions.specs.Spans.{distance_between}
use Rattle.separations.specs.Distance.{Weights, total, along_x, along_y, squares, whole, apart, SharePoint, ExactSquare, Fraction, fraction_le, lesser}
use Rattle.separations.specs.PlaneLaws.Sliding.{PointNear, point_apart}
use Rattle.separations.specs.PlaneLaws.Rates.{Ends, start_first, end_first, start_second, end_second, reach}
use Rattle.separations.specs.PlaneLaws.Feet.{foot_square, foot_weights, foot-num, foot-den, foot-positive, foot_least}
use Rattle.separations.specs.PlaneLaws.Sharing.{zero_dist}

-- ---- fractions

abbrev pub Le : Fraction → Fraction → Type 0
Le f g = f.num * g.den ≤ g.num * f.den

-- p / q ≤ m / n and m / n ≤ x / y
pub le-over : (p q m n x y : ℕ) → 0 < n → p * n ≤ m * q → m * y ≤ x * n → p * y ≤ x * q
le-over p q m n x y z h k =
    le_of_mul-le-mul_right
    (le_trans (le_of_eq (mul_right_comm p y n)) (le_trans (mul-le-mul_right y h) (le_trans (le_of_eq (mul_right_comm m q y)) (le_trans (mul-le-mul_right q k) (le_of_eq (mul_right_comm x n q)))))) z

le-chain : (f g h : Fraction) → 0 < g.den → Le f g → Le g h → Le f h
le-chain f g h z a b = le-over f.num f.den g.num g.den h.num h.den z a b

-- what holds of both holds of the lesser, which is no more than either
pub lesser_by : (P : Fraction → Type 0) (f g : Fraction) → P f → P g → P (lesser f g)
lesser_by P f g a b = go (fraction_le f g)
  where
    go : (t : Bool) → P (cond t f g)
    go true = a
    go false = b

pub lesser-le : (f g : Fraction) → Le (lesser f g) f × Le (lesser f g) g
lesser-le f g = go (fraction_le f g) refl
  where
    go : (t : Bool) → fraction_le f g ≡ t → Le (cond t f g) f × Le (cond t f g) g
    go true e = (le_refl (f.num * f.den), leb-true (f.num * g.den) (g.num * f.den) e)
    go false e = (le_of_lt (leb-false (f.num * g.den) (g.num * f.den) e), le_refl (g.num * g.den))

-- ---- a fraction that two points reach

pub record Points (s t : Segment) (f : Fraction) : Type 0 where
  pub on_first : Weights
  pub on_second : Weights
  pub num_is : apart s on_first t on_second ≡ f.num
  pub den_is : whole on_first on_second * whole on_first on_second ≡ f.den
  pub positive : 0 < f.den

abbrev start : Weights
start = record { first = 1; second = 0; some = zero-lt-suc 0 }

abbrev end : Weights
end = record { first = 0; second = 1; some = zero-lt-suc 0 }

at_first : (a b T : ℕ) → (1 * a + 0 * b) * T ≡ a * T
at_first a b T = omega arith

at_second : (a b T : ℕ) → (0 * a + 1 * b) * T ≡ b * T
at_second a b T = omega arith

by_one : (K : ℕ) → K * (1 + 0) ≡ K
by_one K = omega arith

one_by : (T : ℕ) → (1 + 0) * T ≡ T
one_by T = omega arith

points_turn : {s t : Segment} {f : Fraction} → Points s t f → Points t s f
points_turn {s} {t} {f} h =
    record {
      on_first = h.on_second;
      on_second = h.on_first;
      num_is = (λ i. squares (turn (along_x t h.on_second * total h.on_first) (along_x s h.on_first * total h.on_second) i) (turn (along_y t h.on_second * total h.on_first) (along_y s h.on_first * total h.on_second) i)) ∙ h.num_is;
      den_is = ap (λ (z : ℕ). z * z) (mul_comm (total h.on_second) (total h.on_first)) ∙ h.den_is;
      positive = h.positive;
    }
  where
    turn : (x y : ℕ) → distance_between x y ≡ distance_between y x
    turn x y = omega arith

points_start : (s t : Segment) → Points s t (foot_square s.a t)
points_start s t =
    let w = foot_weights s.a t in
    record {
      on_first = start;
      on_second = w;
      num_is = (λ i. squares (distance_between (at_first s.a.x s.b.x (total w) i) (by_one (along_x t w) i)) (distance_between (at_first s.a.y s.b.y (total w) i) (by_one (along_y t w) i))) ∙ foot-num s.a t;
      den_is = ap (λ (z : ℕ). z * z) (one_by (total w)) ∙ foot-den s.a t;
      positive = foot-positive s.a t;
    }

points_end : (s t : Segment) → Points s t (foot_square s.b t)
points_end s t =
    let w = foot_weights s.b t in
    record {
      on_first = end;
      on_second = w;
      num_is = (λ i. squares (distance_between (at_second s.a.x s.b.x (total w) i) (by_one (along_x t w) i)) (distance_between (at_second s.a.y s.b.y (total w) i) (by_one (along_y t w) i))) ∙ foot-num s.b t;
      den_is = ap (λ (z : ℕ). z * z) (one_by (total w)) ∙ foot-den s.b t;
      positive = foot-positive s.b t;
    }

-- ---- the least of four

abbrev pub least_of_four : Segment → Segment → Fraction
least_of_four s t = lesser (lesser (lesser (foot_square s.a t) (foot_square s.b t)) (foot_square t.a s)) (foot_square t.b s)

module _ (s t : Segment) where
  pub least_points : Points s t (least_of_four s t)
  least_points =
      lesser_by (Points s t) _ _ (lesser_by (Points s t) _ _ (lesser_by (Points s t) _ _ (points_start s t) (points_end s t)) (points_turn (points_start t s))) (points_turn (points_end t s))

  abbrev pub f1 : Fraction
  f1 = foot_square s.a t

  abbrev pub f2 : Fraction
  f2 = foot_square s.b t

  abbrev pub f3 : Fraction
  f3 = foot_square t.a s

  abbrev pub f4 : Fraction
  f4 = foot_square t.b s

  abbrev pub Positive : Fraction → Type 0
  Positive f = 0 < f.den

  pub least_fourth : Le (least_of_four s t) f4
  least_fourth = (lesser-le (lesser (lesser f1 f2) f3) f4).1

  pub first_two-positive : Positive (lesser f1 f2)
  first_two-positive = lesser_by Positive f1 f2 (foot-positive s.a t) (foot-positive s.b t)

  pub first_three-positive : Positive (lesser (lesser f1 f2) f3)
  first_three-positive = lesser_by Positive (lesser f1 f2) f3 first_two-positive (foot-positive t.a s)

  pub least_third : Le (least_of_four s t) f3
  least_third = le-chain (least_of_four s t) (lesser (lesser f1 f2) f3) f3 first_three-positive (lesser-le (lesser (lesser f1 f2) f3) f4).0 (lesser-le (lesser f1 f2) f3).1

  least_12 : Le (least_of_four s t) (lesser f1 f2)
  least_12 = le-chain (least_of_four s t) (lesser (lesser f1 f2) f3) (lesser f1 f2) first_three-positive (lesser-le (lesser (lesser f1 f2) f3) f4).0 (lesser-le (lesser f1 f2) f3).0

  pub least_second : Le (least_of_four s t) f2
  least_second = le-chain (least_of_four s t) (lesser f1 f2) f2 first_two-positive least_12 (lesser-le f1 f2).1

  pub least_first : Le (least_of_four s t) f1
  least_first = le-chain (least_of_four s t) (lesser f1 f2) f1 first_two-positive least_12 (lesser-le f1 f2).0

-- no point near p is nearer than its foot
near_least_lem : (p : Position) (t : Segment) (d W : ℕ) → PointNear p t d W → (foot_square p t).num * (W * W) ≤ d * (foot_square p t).den
near_least_lem p t d W h =
    let v = h.at in
    let f = foot_square p t in
    le-over f.num f.den (point_apart p t v) (total v * total v) d (W * W) (mul-pos v.some v.some) (foot_least p t v) h.near

ends_least : (s t : Segment) (d W : ℕ) → Ends s t d W → (least_of_four s t).num * (W * W) ≤ d * (least_of_four s t).den
ends_least s t d W h = go h
  where
    by : (p : Position) (r : Segment) → Le (least_of_four s t) (foot_square p r) → PointNear p r d W → (least_of_four s t).num * (W * W) ≤ d * (least_of_four s t).den
    by p r l n = le-over (least_of_four s t).num (least_of_four s t).den (foot_square p r).num (foot_square p r).den d (W * W) (foot-positive p r) l (near_least_lem p r d W n)

    go : Ends s t d W → (least_of_four s t).num * (W * W) ≤ d * (least_of_four s t).den
    go (start_first n) = by s.a t (least_first s t) n
    go (end_first n) = by s.b t (least_second s t) n
    go (start_second n) = by t.a s (least_third s t) n
    go (end_second n) = by t.b s (least_fourth s t) n

-- ---- the theorem

pub meet-exact : (s t : Segment) → SharePoint s t → ExactSquare s t 0 1
meet-exact s t h =
    let u = h.on_first in
    let v = h.on_second in
    record {
      positive = zero-lt-suc 0;
      on_first = u;
      on_second = v;
      reached = ap (λ (z : ℕ). z * 1) none ∙ by (whole u v * whole u v);
      least = λ u v. le_trans (le_of_eq (sym (by (whole u v * whole u v)))) zero-le;
    }
  where
    none : apart s h.on_first t h.on_second ≡ 0
    none = λ i. squares (zero_dist _ _ h.same.0 i) (zero_dist _ _ h.same.1 i)

    by : (x : ℕ) → 0 ≡ 0 * x
    by x = omega arith

pub apart-exact : (s t : Segment) → (SharePoint s t → ⊥) → ExactSquare s t (least_of_four s t).num (least_of_four s t).den
apart-exact s t n =
    let p = least_points s t in
    record {
      positive = p.positive;
      on_first = p.on_first;
      on_second = p.on_second;
      reached = λ i. p.num_is i * sym p.den_is i;
      least = λ u v. go u v (reach s t u v);
    }
  where
    go : (u v : Weights) → SharePoint s t ⊎ Ends s t (apart s u t v) (whole u v) → (least_of_four s t).num * (whole u v * whole u v) ≤ apart s u t v * (least_of_four s t).den
    go u v (inl h) = absurd (n h)
    go u v (inr h) = ends_least s t (apart s u t v) (whole u v) h

-- ---- it determines the fraction

exact-le : {s t : Segment} {p q m n : ℕ} → ExactSquare s t p q → ExactSquare s t m n → p * n ≤ m * q
exact-le {s} {t} {p} {q} {m} {n} a b =
    let u = b.on_first in
    let v = b.on_second in
    let W = whole u v * whole u v in
    let z : 0 < W = mul-pos (mul-pos u.some v.some) (mul-pos u.some v.some) in
    le-over p q (apart s u t v) W m n z (a.least u v) (le_of_eq b.reached)

pub exact_unique : {s t : Segment} {p q m n : ℕ} → ExactSquare s t p q → ExactSquare s t m n → p * n ≡ m * q
exact_unique a b = le_antisymm (exact-le a b) (exact-le b a)

-- the same fraction, written otherwise
pub exact-again : {s t : Segment} {p q m n : ℕ} → 0 < n → p * n ≡ m * q → ExactSquare s t p q → ExactSquare s t m n
exact-again {s} {t} {p} {q} {m} {n} z e h =
    let u = h.on_first in
    let v = h.on_second in
    let W = whole u v * whole u v in
    record {
      positive = z;
      on_first = u;
      on_second = v;
      reached = eq_of_mul-eq-mul_right q h.positive (apart s u t v * n) (m * W)
          (mul_right_comm (apart s u t v) n q ∙ ap (λ (z : ℕ). z * n) h.reached ∙ mul_right_comm p W n ∙ ap (λ (z : ℕ). z * W) e ∙ mul_right_comm m q W);
      least = λ u v. le-over m n p q (apart s u t v) (whole u v * whole u v) h.positive (le_of_eq (sym e)) (h.least u v);
    }
