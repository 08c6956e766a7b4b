-- The point of a segment nearest to a given point is the foot of the perpendicular, brought between the ends: no other point of the segment is nearer
-- (`foot_least`). By Stewart's theorem, in three cases: the foot is the first end, the second, or between. Assumes nothing.
use Rattle.std.specs.Prelude.{◌≡◌, refl, ◌⊎◌, Bool, true, false, cond, ℕ, zero, suc, ◌+◌, ◌-◌, ◌*◌, ◌≤◌, ◌<◌, min, eqb, ◌+ℤ◌, ◌*ℤ◌}
use Rattle.std.proofs.Common.{sym, ap, ◌∙◌, subst, inl, inr, zero-le, le_trans, le_of_eq, mul-le-mul_left, mul-le-mul_right, zero-lt-suc, arith, eqb-true}
use Rattle.std.proofs.Math.Nat.{mul-pos}
use Rattle.std.proofs.lemmas.Bool.{eqb-false}
use Rattle.definitions.specs.Grid.{Position, Segment}
use Rattle.definitions.specs.Spans.{diff, distance_between}
use Rattle.laws.specs.NumberLaws.Comparisons.{le_or_lt}
use Rattle.separations.specs.Distance.{Weights, total, squares, Fraction, length_square, end_square, along}
use Rattle.separations.specs.PlaneLaws.Signs.{is_diff, is_mul, is_add, nat_of_is}
use Rattle.separations.specs.PlaneLaws.Sliding.{point_apart}
use Rattle.separations.specs.PlaneLaws.Stewart.{dist_square, twice-product, stewart}

-- ---- the foot: m and k are its weights, n is their sum

-- F is at the weights m and k, f at i and j; both are times the squares of the sums of weights
module _ (a b n f F i j : ℕ) (hf : f + i * j * n ≡ (i + j) * (i * a + j * b)) where
  -- before the first end
  least_start : (m : ℕ) → F + m * 0 * n ≡ (m + 0) * (m * a + 0 * b) → a + n ≤ b → F * ((i + j) * (i + j)) ≤ f * (m * m)
  least_start m hF h =
      let e : F ≡ a * (m * m) = omega arith in
      let g : (i + j) * j * (a + n) ≤ (i + j) * j * b = mul-le-mul_left ((i + j) * j) h in
      let l : a * ((i + j) * (i + j)) ≤ f = omega arith in
      le_trans (le_of_eq (ap (λ (z : ℕ). z * ((i + j) * (i + j))) e)) (le_trans (le_of_eq (swap a (m * m) ((i + j) * (i + j)))) (mul-le-mul_right (m * m) l))
    where
      swap : (x y z : ℕ) → x * y * z ≡ x * z * y
      swap x y z = omega arith

  -- beyond the second end
  least_end : (k : ℕ) → F + 0 * k * n ≡ (0 + k) * (0 * a + k * b) → b + n ≤ a → F * ((i + j) * (i + j)) ≤ f * (k * k)
  least_end k hF h =
      let e : F ≡ b * (k * k) = omega arith in
      let g : (i + j) * i * (b + n) ≤ (i + j) * i * a = mul-le-mul_left ((i + j) * i) h in
      let l : b * ((i + j) * (i + j)) ≤ f = omega arith in
      le_trans (le_of_eq (ap (λ (z : ℕ). z * ((i + j) * (i + j))) e)) (le_trans (le_of_eq (swap b (k * k) ((i + j) * (i + j)))) (mul-le-mul_right (k * k) l))
    where
      swap : (x y z : ℕ) → x * y * z ≡ x * z * y
      swap x y z = omega arith

-- between the ends
module _ (a b f F i j m k : ℕ) (hf : f + i * j * (m + k) ≡ (i + j) * (i * a + j * b)) (hF : F + m * k * (m + k) ≡ (m + k) * (m * a + k * b)) (h : b + k ≡ a + m) where
  abbrev n : ℕ
  n = m + k

  from_first : F + n * (k * k) ≡ n * n * a
  from_first = omega (arith, ap (λ (z : ℕ). n * k * z) h)

  from_second : F + n * (m * m) ≡ n * n * b
  from_second = omega (arith, ap (λ (z : ℕ). n * m * z) h)

  in_squares : f * (n * n) + i * j * n * (n * n) ≡ (i + j) * (i * (F + n * (k * k)) + j * (F + n * (m * m)))
  in_squares = over n hf ∙ (λ z. (i + j) * (i * sym from_first z + j * sym from_second z))
    where
      over : (n : ℕ) → f + i * j * n ≡ (i + j) * (i * a + j * b) → f * (n * n) + i * j * n * (n * n) ≡ (i + j) * (i * (n * n * a) + j * (n * n * b))
      over n e = omega (arith, ap (λ (z : ℕ). z * (n * n)) e)

  least_between : F * ((i + j) * (i + j)) ≤ f * (n * n)
  least_between = last (f * (n * n)) (n * (2 * (i * k * (j * m)))) (n * (i * k * (i * k) + j * m * (j * m))) (mul-le-mul_left n (twice-product (i * k) (j * m))) (spread (f * (n * n)) in_squares)
    where
      spread : (X : ℕ) → X + i * j * (m + k) * ((m + k) * (m + k)) ≡ (i + j) * (i * (F + (m + k) * (k * k)) + j * (F + (m + k) * (m * m)))
          → X + (m + k) * (2 * (i * k * (j * m))) ≡ F * ((i + j) * (i + j)) + (m + k) * (i * k * (i * k) + j * m * (j * m))
      spread X e = omega arith

      last : (X u v : ℕ) → u ≤ v → X + u ≡ F * ((i + j) * (i + j)) + v → F * ((i + j) * (i + j)) ≤ X
      last X u v p q = omega arith

-- ---- where the foot is, brought between the ends

abbrev pub foot : Position → Segment → ℕ
foot p t = min (along p t) (length_square t)

-- the product of the ways from t's first end to p and to its second end, as a difference
abbrev pub dot_more : Position → Segment → ℕ
dot_more p t = p.x * t.b.x + t.a.x * t.a.x + (p.y * t.b.y + t.a.y * t.a.y)

abbrev pub dot_less : Position → Segment → ℕ
dot_less p t = p.x * t.a.x + t.a.x * t.b.x + (p.y * t.a.y + t.a.y * t.b.y)

pub along_is : (p : Position) (t : Segment) → along p t ≡ dot_more p t - dot_less p t
along_is p t =
    nat_of_is (diff p.x t.a.x *ℤ diff t.b.x t.a.x +ℤ diff p.y t.a.y *ℤ diff t.b.y t.a.y)
    (is_add (diff p.x t.a.x *ℤ diff t.b.x t.a.x) (diff p.y t.a.y *ℤ diff t.b.y t.a.y)
    (is_mul (diff p.x t.a.x) (diff t.b.x t.a.x) (is_diff p.x t.a.x) (is_diff t.b.x t.a.x))
    (is_mul (diff p.y t.a.y) (diff t.b.y t.a.y) (is_diff p.y t.a.y) (is_diff t.b.y t.a.y)))

pub foot_is : (p : Position) (t : Segment) → foot p t ≡ min (dot_more p t - dot_less p t) (length_square t)
foot_is p t = ap (λ (z : ℕ). min z (length_square t)) (along_is p t)

dot_axis : (P A B : ℕ) → distance_between P A * distance_between P A + distance_between B A * distance_between B A + 2 * (P * A + A * B) ≡ distance_between P B * distance_between P B + 2 * (P * B + A * A)
dot_axis P A B = by _ _ _ (dist_square P A) (dist_square B A) (dist_square P B)
  where
    by : (a n b : ℕ) → a + 2 * (P * A) ≡ P * P + A * A → n + 2 * (B * A) ≡ B * B + A * A → b + 2 * (P * B) ≡ P * P + B * B → a + n + 2 * (P * A + A * B) ≡ b + 2 * (P * B + A * A)
    by a n b h1 h2 h3 = omega arith

dot_is : (p : Position) (t : Segment) → end_square p t.a + length_square t + 2 * dot_less p t ≡ end_square p t.b + 2 * dot_more p t
dot_is p t = by _ _ _ _ _ _ _ _ _ _ (dot_axis p.x t.a.x t.b.x) (dot_axis p.y t.a.y t.b.y)
  where
    by : (a n u b v a' n' u' b' v' : ℕ) → a + n + 2 * u ≡ b + 2 * v → a' + n' + 2 * u' ≡ b' + 2 * v' → a + a' + (n + n') + 2 * (u + u') ≡ b + b' + 2 * (v + v')
    by a n u b v a' n' u' b' v' h k = omega arith

data At (a b n k : ℕ) : Type 0 where
  start : k ≡ 0 → a + n ≤ b → At a b n k
  finish : k ≡ n → b + n ≤ a → At a b n k
  between : k ≤ n → b + k ≡ a + (n - k) → At a b n k

foot_at : (p : Position) (t : Segment) → At (end_square p t.a) (end_square p t.b) (length_square t) (foot p t)
foot_at p t = subst (At (end_square p t.a) (end_square p t.b) (length_square t)) (sym (foot_is p t)) (go _ _ _ (dot_less p t) (dot_more p t) (dot_is p t))
  where
    go : (a b n u v : ℕ) → a + n + 2 * u ≡ b + 2 * v → At a b n (min (v - u) n)
    go a b n u v h = elim (le_or_lt v u) [
      | inl l ↦ start (omega arith) (omega arith)
      | inr l ↦ elim (le_or_lt n (v - u)) [ inl g ↦ finish (omega arith) (omega arith) | inr g ↦ between (omega arith) (omega arith) ]
    ]

-- at any of these places no other point is nearer
least_at : (a b n f F i j m k : ℕ) → f + i * j * n ≡ (i + j) * (i * a + j * b) → F + m * k * n ≡ (m + k) * (m * a + k * b) → m + k ≡ n → At a b n k → F * ((i + j) * (i + j)) ≤ f * ((m + k) * (m + k))
least_at a b n f F i j m k hf hF s (start z h) =
    let g : F + m * 0 * n ≡ (m + 0) * (m * a + 0 * b) = subst (λ (k : ℕ). F + m * k * n ≡ (m + k) * (m * a + k * b)) z hF in
    let e : m + k ≡ m = omega arith in
    le_trans (least_start a b n f F i j hf m g h) (le_of_eq (ap (λ (z : ℕ). f * (z * z)) (sym e)))
least_at a b n f F i j m k hf hF s (finish z h) =
    let y : m ≡ 0 = omega arith in
    let g : F + 0 * k * n ≡ (0 + k) * (0 * a + k * b) = subst (λ (m : ℕ). F + m * k * n ≡ (m + k) * (m * a + k * b)) y hF in
    let e : m + k ≡ k = omega arith in
    le_trans (least_end a b n f F i j hf k g h) (le_of_eq (ap (λ (z : ℕ). f * (z * z)) (sym e)))
least_at a b n f F i j m k hf hF s (between l h) =
    let r : b + k ≡ a + m = omega arith in
    least_between a b f F i j m k (subst (λ (n : ℕ). f + i * j * n ≡ (i + j) * (i * a + j * b)) (sym s) hf) (subst (λ (n : ℕ). F + m * k * n ≡ (m + k) * (m * a + k * b)) (sym s) hF) r

-- of a segment without length all points are one
least_flat : (a b n f F i j m k : ℕ) → f + i * j * n ≡ (i + j) * (i * a + j * b) → F + m * k * n ≡ (m + k) * (m * a + k * b) → n ≡ 0 → a ≡ b → F * ((i + j) * (i + j)) ≤ f * ((m + k) * (m + k))
least_flat a b n f F i j m k hf hF z e =
    let f' : f ≡ (i + j) * (i + j) * b = by f i j hf in
    let F' : F ≡ (m + k) * (m + k) * b = by F m k hF in
    le_of_eq ((λ t. F' t * ((i + j) * (i + j))) ∙ swap ((m + k) * (m + k)) b ((i + j) * (i + j)) ∙ (λ t. sym f' t * ((m + k) * (m + k))))
  where
    by : (f i j : ℕ) → f + i * j * n ≡ (i + j) * (i * a + j * b) → f ≡ (i + j) * (i + j) * b
    by f i j h = omega (arith, subst (λ (a : ℕ). f + i * j * n ≡ (i + j) * (i * a + j * b)) e h, ap (λ (z : ℕ). i * j * z) z)

    swap : (x y z : ℕ) → x * y * z ≡ z * y * x
    swap x y z = omega arith

-- ---- the square of the distance from the point to the foot, as a fraction of the weights: it is that from the point to the segment

-- the sum of the weights; of a segment without length, whose foot is its first end, 1
abbrev pub scale : Segment → ℕ
scale t = cond (eqb (length_square t) 0) 1 (length_square t)

unfoldable pub foot_square : Position → Segment → Fraction
foot_square p t =
    let n = scale t in
    let k = foot p t in
    record {
      num = squares (distance_between (p.x * n) ((n - k) * t.a.x + k * t.b.x)) (distance_between (p.y * n) ((n - k) * t.a.y + k * t.b.y));
      den = n * n;
    }

pub foot-le : (p : Position) (t : Segment) → foot p t ≤ length_square t
foot-le p t = by _ _
  where
    by : (x n : ℕ) → min x n ≤ n
    by x n = omega arith

pub record Scaled (t : Segment) : Type 0 where
  pub le : length_square t ≤ scale t
  pub some : 0 < scale t
  pub is : (length_square t ≡ 0) ⊎ (scale t ≡ length_square t)

pub scaled : (t : Segment) → Scaled t
scaled t = go (eqb (length_square t) 0) refl
  where
    go : (z : Bool) → eqb (length_square t) 0 ≡ z → Scaled t
    go true e =
        let l : length_square t ≡ 0 = eqb-true (length_square t) 0 e in
        let k : scale t ≡ 1 = ap (λ (z : Bool). cond z 1 (length_square t)) e in
        record { le = le_trans (le_of_eq l) zero-le; some = subst (λ (z : ℕ). 0 < z) (sym k) (zero-lt-suc 0); is = inl l }
    go false e =
        let k : scale t ≡ length_square t = ap (λ (z : Bool). cond z 1 (length_square t)) e in
        record { le = le_of_eq (sym k); some = subst (λ (z : ℕ). 0 < z) (sym k) (pos (length_square t) (eqb-false (length_square t) 0 e)); is = inr k }
      where
        pos : (x : ℕ) → (x ≡ 0 → ⊥) → 0 < x
        pos zero n = absurd (n refl)
        pos (suc x) n = zero-lt-suc x

module _ (p : Position) (t : Segment) where
  pub foot-sum : scale t - foot p t + foot p t ≡ scale t
  foot-sum = by (scale t) (foot p t) (le_trans (foot-le p t) (scaled t).le)
    where
      by : (n k : ℕ) → k ≤ n → n - k + k ≡ n
      by n k h = omega arith

  unfoldable pub foot_weights : Weights
  foot_weights = record { first = scale t - foot p t; second = foot p t; some = subst (λ (z : ℕ). 0 < z) (sym foot-sum) (scaled t).some }

  pub foot-num : point_apart p t foot_weights ≡ (foot_square p t).num
  unfolding foot_square foot_weights
  foot-num =
      λ i.
      squares (distance_between (p.x * foot-sum i) ((scale t - foot p t) * t.a.x + foot p t * t.b.x)) (distance_between (p.y * foot-sum i) ((scale t - foot p t) * t.a.y + foot p t * t.b.y))

  pub foot-den : total foot_weights * total foot_weights ≡ (foot_square p t).den
  unfolding foot_square foot_weights
  foot-den = λ i. foot-sum i * foot-sum i

  pub foot-positive : 0 < (foot_square p t).den
  unfolding foot_square
  foot-positive = mul-pos (scaled t).some (scaled t).some

  pub flat : length_square t ≡ 0 → end_square p t.a ≡ end_square p t.b
  flat e = λ i. squares (distance_between p.x (same_x i)) (distance_between p.y (same_y i))
    where
      none : (x y : ℕ) → x * x + y * y ≡ 0 → (x ≡ 0) × (y ≡ 0)
      none zero zero h = (refl, refl)
      none zero (suc y) h = absurd (omega arith)
      none (suc x) y h = absurd (omega arith)

      level : (x y : ℕ) → distance_between y x ≡ 0 → x ≡ y
      level x y h = omega arith

      same_x : t.a.x ≡ t.b.x
      same_x = level t.a.x t.b.x (none _ _ e).0

      same_y : t.a.y ≡ t.b.y
      same_y = level t.a.y t.b.y (none _ _ e).1

  pub foot_least : (v : Weights) → (foot_square p t).num * (total v * total v) ≤ point_apart p t v * (foot_square p t).den
  foot_least v =
      subst (λ (z : ℕ). z * (total v * total v) ≤ point_apart p t v * (foot_square p t).den) foot-num
      (subst (λ (z : ℕ). point_apart p t foot_weights * (total v * total v) ≤ point_apart p t v * z) foot-den (go (scaled t).is))
    where
      sum : scale t ≡ length_square t → foot_weights.first + foot_weights.second ≡ length_square t
      sum z = unfold foot_weights in (foot-sum ∙ z)

      foot-place : At (end_square p t.a) (end_square p t.b) (length_square t) foot_weights.second
      foot-place = unfold foot_weights in foot_at p t

      go : (length_square t ≡ 0) ⊎ (scale t ≡ length_square t) → point_apart p t foot_weights * (total v * total v) ≤ point_apart p t v * (total foot_weights * total foot_weights)
      go (inl z) = least_flat _ _ _ _ _ _ _ _ _ (stewart p t v) (stewart p t foot_weights) z (flat z)
      go (inr z) = least_at _ _ _ _ _ _ _ _ _ (stewart p t v) (stewart p t foot_weights) (sum z) (foot-place)
