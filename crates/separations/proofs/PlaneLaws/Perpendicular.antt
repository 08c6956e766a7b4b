-- The four fractions of `exact_square` are those of the feet (Feet), written shorter: where the foot is between the ends, the distance is that of the
-- perpendicular, cross / length. So the least of the one four is the least of the other (`least_same`). Assumes nothing.
use Rattle.std.specs.Prelude.{◌≡◌, ◌⊎◌, Bool, true, false, cond, ℕ, ◌+◌, ◌-◌, ◌*◌, ◌≤◌, ◌<◌, min, eqb, leb, nat_abs}
use Rattle.std.proofs.Math.Path.{refl, sym, ap}
use Rattle.std.proofs.Common.{◌∙◌, subst, zero-le, le_trans, le_of_eq, le_of_lt, le_antisymm, add-mul, mul-add, mul_comm, mul_assoc, mul_left_comm, mul-one, add_assoc, add_comm, zero-lt-suc, arith, eqb-true, leb-true, leb-false}
use Rattle.std.proofs.Math.Logic.{inl, inr}
use Rattle.std.proofs.Math.Nat.{add_left_comm}
use Rattle.std.proofs.lemmas.Bool.{eqb-false}
use Rattle.definitions.specs.Grid.{Position, Segment}
use Rattle.definitions.specs.Spans.{distance_between, cross}
use Rattle.laws.specs.NumberLaws.Comparisons.{le_or_lt}
use Rattle.separations.specs.Distance.{total, squares, Fraction, lesser, length_square, end_square, along, point_square}
use Rattle.separations.specs.PlaneLaws.Signs.{nat_abs_is, cross_more, cross_less, is_cross}
use Rattle.separations.specs.PlaneLaws.Sliding.{dist_scale}
use Rattle.separations.specs.PlaneLaws.Stewart.{dist_square, stewart}
use Rattle.separations.specs.PlaneLaws.Feet.{dot_more, dot_less, along_is, foot, foot-le, scale, scaled, foot_square, foot_weights, foot-num, foot-den, foot-positive, flat}
use Rattle.separations.specs.PlaneLaws.LeastDistance.{Le, le-over, lesser_by, lesser-le, least_of_four}

-- ---- the way to the foot is the perpendicular: in each coordinate it is the cross product times the segment's extent in the other

-- p * n - ((n - k) * a + k * b) is -(b' - a') * cross, with n, k and cross as differences
perpendicular_identity : (a a' b b' p p' : ℕ)
    → p * (b * b + a * a + (b' * b' + a' * a')) + a * (b * a + a * b + (b' * a' + a' * b'))
    + ((p * b + a * a + (p' * b' + a' * a')) * a + (p * a + a * b + (p' * a' + a' * b')) * b)
    + (b' * (b * p' + a * a' + (b' * a + a' * p)) + a' * (b * a' + a * p' + (b' * p + a' * a)))
    ≡ p * (b * a + a * b + (b' * a' + a' * b')) + a * (b * b + a * a + (b' * b' + a' * a'))
    + ((p * a + a * b + (p' * a' + a' * b')) * a + (p * b + a * a + (p' * b' + a' * a')) * b)
    + (b' * (b * a' + a * p' + (b' * p + a' * a)) + a' * (b * p' + a * a' + (b' * a + a' * p)))
perpendicular_identity a a' b b' p p' = simp (add-mul, mul-add, mul_assoc, mul_comm, mul_left_comm, add_assoc, add_comm, add_left_comm) refl

axis_linear : (pn an ka kb pP pN aP aN kPa kNa kPb kNb eM eL bM aM bL aL l : ℕ) → pn + pN ≡ pP → an + aN ≡ aP → ka + kNa ≡ kPa → kb + kNb ≡ kPb → eM + aM ≡ bM → eL + aL ≡ bL → l + ka ≡ an
    → pP + aN + (kPa + kNb) + (bM + aL) ≡ pN + aP + (kNa + kPb) + (bL + aM) → pn + eM ≡ l + kb + eL
axis_linear pn an ka kb pP pN aP aN kPa kNa kPb kNb eM eL bM aM bL aL l h1 h2 h3 h4 h5 h6 h7 h8 = omega arith

times : (u v w z : ℕ) → u + v ≡ w → z * u + z * v ≡ z * w
times u v w z e = omega (arith, ap (λ (x : ℕ). z * x) e)

times' : (u v w z : ℕ) → u + v ≡ w → u * z + v * z ≡ w * z
times' u v w z e = omega (arith, ap (λ (x : ℕ). x * z) e)

rest : (x y : ℕ) → y ≤ x → x - y + y ≡ x
rest x y h = omega arith

module _ (a a' b b' p p' n k : ℕ) (hn : n + (b * a + a * b + (b' * a' + a' * b')) ≡ b * b + a * a + (b' * b' + a' * a')) (hk : k + (p * a + a * b + (p' * a' + a' * b')) ≡ p * b + a * a + (p' * b' + a' * a')) (le : k ≤ n) where
  abbrev more : ℕ
  more = b * p' + a * a' + (b' * a + a' * p)

  abbrev fewer : ℕ
  fewer = b * a' + a * p' + (b' * p + a' * a)

  left : (n - k) * a + k * a ≡ a * n
  left = times' (n - k) k n a (rest n k le) ∙ mul_comm n a

  forward : (e : ℕ) → e + a' ≡ b' → p * n + e * more ≡ (n - k) * a + k * b + e * fewer
  forward e h =
      axis_linear (p * n) (a * n) (k * a) (k * b) _ _ _ _ _ _ _ _ (e * more) (e * fewer) (b' * more) (a' * more) (b' * fewer) (a' * fewer) ((n - k) * a)
      (times n _ _ p hn) (times n _ _ a hn) (times' k _ _ a hk) (times' k _ _ b hk) (times' e a' b' more h) (times' e a' b' fewer h) left (perpendicular_identity a a' b b' p p')

  backward : (e : ℕ) → e + b' ≡ a' → p * n + e * fewer ≡ (n - k) * a + k * b + e * more
  backward e h =
      axis_linear (p * n) (a * n) (k * a) (k * b) _ _ _ _ _ _ _ _ (e * fewer) (e * more) (a' * fewer) (b' * fewer) (a' * more) (b' * more) ((n - k) * a)
      (times n _ _ p hn) (times n _ _ a hn) (times' k _ _ a hk) (times' k _ _ b hk) (times' e b' a' fewer h) (times' e b' a' more h) left
      (turn _ _ _ _ _ _ (perpendicular_identity a a' b b' p p'))
    where
      turn : (x y u v w z : ℕ) → x + (u + v) ≡ y + (w + z) → x + (v + u) ≡ y + (z + w)
      turn x y u v w z h = omega arith

  perpendicular : distance_between (p * n) ((n - k) * a + k * b) ≡ distance_between b' a' * distance_between more fewer
  perpendicular = elim (le_or_lt a' b') [
    | inl h ↦
        dist_scale (p * n) ((n - k) * a + k * b) (b' - a') fewer more (forward (b' - a') (rest b' a' h))
        ∙ (λ i. up b' a' h i * turn fewer more i)
    | inr h ↦
        dist_scale (p * n) ((n - k) * a + k * b) (a' - b') more fewer (backward (a' - b') (rest a' b' (le_of_lt h)))
        ∙ (λ i. down b' a' h i * distance_between more fewer)
  ]
    where
      turn : (x y : ℕ) → distance_between x y ≡ distance_between y x
      turn x y = omega arith

      up : (x y : ℕ) → y ≤ x → x - y ≡ distance_between x y
      up x y h = omega arith

      down : (x y : ℕ) → x < y → y - x ≡ distance_between x y
      down x y h = omega arith

-- ---- the fractions are the same

start_same : (F m k n a b : ℕ) → k ≡ 0 → F + m * k * n ≡ (m + k) * (m * a + k * b) → F * 1 ≡ a * ((m + k) * (m + k))
start_same F m k n a b z h =
    let g : F + m * 0 * n ≡ (m + 0) * (m * a + 0 * b) = subst (λ (k : ℕ). F + m * k * n ≡ (m + k) * (m * a + k * b)) z h in
    let e : m + k ≡ m = omega arith in
    mul-one F ∙ omega arith ∙ ap (λ (x : ℕ). a * (x * x)) (sym e)

end_same : (F m k n a b : ℕ) → m ≡ 0 → F + m * k * n ≡ (m + k) * (m * a + k * b) → F * 1 ≡ b * ((m + k) * (m + k))
end_same F m k n a b z h =
    let g : F + 0 * k * n ≡ (0 + k) * (0 * a + k * b) = subst (λ (m : ℕ). F + m * k * n ≡ (m + k) * (m * a + k * b)) z h in
    let e : m + k ≡ k = omega arith in
    mul-one F ∙ omega arith ∙ ap (λ (x : ℕ). b * (x * x)) (sym e)

between_same : (x y c n : ℕ) → x * x + y * y ≡ n → squares (y * c) (x * c) * n ≡ c * c * (n * n)
between_same x y c n e = ap (λ (z : ℕ). squares (y * c) (x * c) * z) (sym e) ∙ by x y c ∙ ap (λ (z : ℕ). c * c * (z * z)) e
  where
    by : (x y c : ℕ) → squares (y * c) (x * c) * (x * x + y * y) ≡ c * c * ((x * x + y * y) * (x * x + y * y))
    by x y c = omega arith

module _ (p : Position) (t : Segment) where
  abbrev n : ℕ
  n = length_square t

  abbrev c : ℕ
  c = distance_between (cross_more t.a t.b p) (cross_less t.a t.b p)

  foot-stewart : (foot_square p t).num + (foot_weights p t).first * (foot_weights p t).second * n ≡ total (foot_weights p t) * ((foot_weights p t).first * end_square p t.a + (foot_weights p t).second * end_square p t.b)
  foot-stewart = subst (λ (z : ℕ). z + (foot_weights p t).first * (foot_weights p t).second * n ≡ total (foot_weights p t) * ((foot_weights p t).first * end_square p t.a + (foot_weights p t).second * end_square p t.b)) (foot-num p t) (stewart p t (foot_weights p t))

  same_start : foot p t ≡ 0 → (foot_square p t).num * 1 ≡ end_square p t.a * (foot_square p t).den
  unfolding foot_weights
  same_start z =
      start_same (foot_square p t).num (scale t - foot p t) (foot p t) n (end_square p t.a) (end_square p t.b) z foot-stewart
      ∙ ap (λ (x : ℕ). end_square p t.a * x) (foot-den p t)

  same_end : scale t - foot p t ≡ 0 → (foot_square p t).num * 1 ≡ end_square p t.b * (foot_square p t).den
  unfolding foot_weights
  same_end z =
      end_same (foot_square p t).num (scale t - foot p t) (foot p t) n (end_square p t.a) (end_square p t.b) z foot-stewart
      ∙ ap (λ (x : ℕ). end_square p t.b * x) (foot-den p t)

  length_is : n + (t.b.x * t.a.x + t.a.x * t.b.x + (t.b.y * t.a.y + t.a.y * t.b.y)) ≡ t.b.x * t.b.x + t.a.x * t.a.x + (t.b.y * t.b.y + t.a.y * t.a.y)
  length_is = by _ _ _ _ _ _ (dist_square t.b.x t.a.x) (dist_square t.b.y t.a.y)
    where
      by : (d e a b c f : ℕ) → d + 2 * (a * b) ≡ a * a + b * b → e + 2 * (c * f) ≡ c * c + f * f → d + e + (a * b + b * a + (c * f + f * c)) ≡ a * a + b * b + (c * c + f * f)
      by d e a b c f h k = omega arith

  same_between : (k : ℕ) → k + dot_less p t ≡ dot_more p t → k ≤ n → 0 < n → foot p t ≡ k → (foot_square p t).num * n ≡ c * c * (foot_square p t).den
  unfolding foot_square
  same_between k hk le z f =
      let e : scale t ≡ n = elim (scaled t).is [ inl y ↦ absurd (omega (arith, y, z)) | inr y ↦ y ] in
      (λ i. squares (distance_between (p.x * e i) ((e i - f i) * t.a.x + f i * t.b.x)) (distance_between (p.y * e i) ((e i - f i) * t.a.y + f i * t.b.y)) * n)
      ∙ (λ i. squares (on_x_lem i) (on_y_lem i) * n)
      ∙ between_same (distance_between t.b.x t.a.x) (distance_between t.b.y t.a.y) c n refl
      ∙ (λ i. c * c * (sym e i * sym e i))
    where
      on_x_lem : distance_between (p.x * n) ((n - k) * t.a.x + k * t.b.x) ≡ distance_between t.b.y t.a.y * c
      on_x_lem = perpendicular t.a.x t.a.y t.b.x t.b.y p.x p.y n k length_is hk le

      pairs : (x u v y w z : ℕ) → x + (u + v) ≡ w + z → x + (v + u) ≡ z + w
      pairs x u v y w z h = omega arith

      turned : (a b a' b' p p' : ℕ) → distance_between (b' * p + a' * a + (b * a' + a * p')) (b' * a + a' * p + (b * p' + a * a')) ≡ distance_between (b * p' + a * a' + (b' * a + a' * p)) (b * a' + a * p' + (b' * p + a' * a))
      turned a b a' b' p p' = by (b' * p) (a' * a) (b * a') (a * p') (b' * a) (a' * p) (b * p') (a * a') (mul_comm a' a)
        where
          by : (q r u v w x y z : ℕ) → r ≡ z → distance_between (q + r + (u + v)) (w + x + (y + z)) ≡ distance_between (y + z + (w + x)) (u + v + (q + r))
          by q r u v w x y z h = omega arith

      on_y_lem : distance_between (p.y * n) ((n - k) * t.a.y + k * t.b.y) ≡ distance_between t.b.x t.a.x * c
      on_y_lem =
          perpendicular t.a.y t.a.x t.b.y t.b.x p.y p.x n k (pairs n _ _ 0 _ _ length_is) (pairs k _ _ 0 _ _ hk) le
          ∙ ap (λ (z : ℕ). distance_between t.b.x t.a.x * z) (turned t.a.x t.b.x t.a.y t.b.y p.x p.y)

-- f and g are one fraction
abbrev pub Equal : Fraction → Fraction → Type 0
Equal f g = f.num * g.den ≡ g.num * f.den

pub same_square : (p : Position) (t : Segment) → Equal (foot_square p t) (point_square p t)
unfolding point_square
same_square p t = go (eqb (along p t) 0) (leb (length_square t) (along p t)) refl refl
  where
    A : Fraction
    A = record { num = end_square p t.a; den = 1 }

    B : Fraction
    B = record { num = end_square p t.b; den = 1 }

    C : Fraction
    C = record { num = nat_abs (cross t.a t.b p) * nat_abs (cross t.a t.b p); den = length_square t }

    none : (k m : ℕ) → k ≡ 0 → min k m ≡ 0
    none k m h = omega arith

    whole : (k m s : ℕ) → m ≤ k → s ≡ m → s - min k m ≡ 0
    whole k m s h e = omega arith

    at-end : length_square t ≤ along p t → (length_square t ≡ 0) ⊎ (scale t ≡ length_square t) → Equal (foot_square p t) B
    at-end h (inl z) =
        same_start p t (le_antisymm (le_trans (foot-le p t) (le_of_eq z)) zero-le) ∙ ap (λ (x : ℕ). x * (foot_square p t).den) (flat p t z)
    at-end h (inr z) = same_end p t (whole (along p t) (length_square t) (scale t) h z)

    between : along p t < length_square t → (along p t ≡ 0 → ⊥) → Equal (foot_square p t) C
    between h n =
        same_between p t (along p t) (above (along p t) (dot_more p t) (dot_less p t) (along_is p t) n) (le_of_lt h) (less (along p t) (length_square t) h) (first (along p t) (length_square t) h)
        ∙ ap (λ (x : ℕ). x * x * (foot_square p t).den) (sym (nat_abs_is (cross t.a t.b p) (is_cross t.a t.b p)))
      where
        above : (k u v : ℕ) → k ≡ u - v → (k ≡ 0 → ⊥) → k + v ≡ u
        above k u v e n = elim (le_or_lt u v) [ inl z ↦ absurd (n (omega arith)) | inr z ↦ omega arith ]

        less : (k m : ℕ) → k < m → 0 < m
        less k m h = omega arith

        first : (k m : ℕ) → k < m → min k m ≡ k
        first k m h = omega arith

    go : (x y : Bool) → eqb (along p t) 0 ≡ x → leb (length_square t) (along p t) ≡ y → Equal (foot_square p t) (cond x A (cond y B C))
    go true y e f = same_start p t (none (along p t) (length_square t) (eqb-true (along p t) 0 e))
    go false true e f = at-end (leb-true (length_square t) (along p t) f) (scaled t).is
    go false false e f = between (leb-false (length_square t) (along p t) f) (eqb-false (along p t) 0 e)

abbrev Positive : Fraction → Type 0
Positive f = 0 < f.den

pub point-positive : (p : Position) (t : Segment) → 0 < (point_square p t).den
unfolding point_square
point-positive p t = go (eqb (along p t) 0) (leb (length_square t) (along p t)) refl
  where
    less : (k m : ℕ) → k < m → 0 < m
    less k m h = omega arith

    go : (x y : Bool) → leb (length_square t) (along p t) ≡ y
        → Positive (cond x (record { num = end_square p t.a; den = 1 }) (cond y (record { num = end_square p t.b; den = 1 }) (record { num = nat_abs (cross t.a t.b p) * nat_abs (cross t.a t.b p); den = length_square t })))
    go true y f = zero-lt-suc 0
    go false true f = zero-lt-suc 0
    go false false f = less (along p t) (length_square t) (leb-false (length_square t) (along p t) f)

-- ---- and so are the least of four

-- both with positive denominators
pub record Pair (f g : Fraction) : Type 0 where
  pub is : Equal f g
  pub first : 0 < f.den
  pub second : 0 < g.den

pair_turn : {f g : Fraction} → Pair f g → Pair g f
pair_turn h = record { is = sym h.is; first = h.second; second = h.first }

lesser-le-pair : {f g f' g' : Fraction} → Pair f f' → Pair g g' → Le (lesser f g) (lesser f' g')
lesser-le-pair {f} {g} {f'} {g'} h k =
    lesser_by (λ x. Le (lesser f g) x) f' g'
    (le-over (lesser f g).num (lesser f g).den f.num f.den f'.num f'.den h.first (lesser-le f g).0 (le_of_eq h.is))
    (le-over (lesser f g).num (lesser f g).den g.num g.den g'.num g'.den k.first (lesser-le f g).1 (le_of_eq k.is))

pair-lesser : {f g f' g' : Fraction} → Pair f f' → Pair g g' → Pair (lesser f g) (lesser f' g')
pair-lesser {f} {g} {f'} {g'} h k =
    record {
      is = le_antisymm (lesser-le-pair h k) (lesser-le-pair (pair_turn h) (pair_turn k));
      first = lesser_by Positive f g h.first k.first;
      second = lesser_by Positive f' g' h.second k.second;
    }

abbrev pub least_square : Segment → Segment → Fraction
least_square s t = lesser (lesser (lesser (point_square s.a t) (point_square s.b t)) (point_square t.a s)) (point_square t.b s)

pub least_same : (s t : Segment) → Pair (least_of_four s t) (least_square s t)
least_same s t = pair-lesser (pair-lesser (pair-lesser (of s.a t) (of s.b t)) (of t.a s)) (of t.b s)
  where
    of : (p : Position) (t : Segment) → Pair (foot_square p t) (point_square p t)
    of p t = record { is = same_square p t; first = foot-positive p t; second = point-positive p t }
