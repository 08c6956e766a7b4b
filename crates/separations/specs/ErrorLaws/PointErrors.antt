-- How far the distance of a point and a segment is off: at most 2 ^ -34 pixel. The parameter t is off by at most 2 ^ -52, which moves the nearest point by at
-- most 2 ^ -39 in each coordinate; the offsets from that point are off by at most 7 * 2 ^ -39 more, and the rounded root by 2 ^ -36. For the lower bound t is
-- not looked at: any t from 0 to 1 is a point of the segment, which is not nearer than the foot. Assumes coordinates up to 8,192.
use Rattle.std.specs.Prelude.{◌≡◌, ◌⊎◌, false, eqb, Float}
use Rattle.std.proofs.Math.Path.{refl, ap, subst}
use Rattle.std.proofs.Common.{sym, ◌∙◌, le_trans, le_of_eq, le_refl, lt_of_le_of_lt, mul-le-mul, mul-le-mul_left, mul-le-mul_right, add-le-add, add-mul, mul_comm, mul_right_comm, mul-pos, le_of_mul-le-mul_right, eq-zero-or-pos, not-le_of_lt, arith, lit≤, lit<, pow_pos}
use Rattle.std.proofs.Math.Logic.{inl, inr}
use Rattle.std.proofs.Math.Bool.{cond}
use Prim.Native.Nat.{ℕ, ◌+◌, ◌-◌, ◌*◌, ◌^◌, ◌≤◌, ◌<◌, zero-le}
use Rattle.std.proofs.Math.Nat.{mul-mul-mul_comm, le_antisymm}
use Rattle.std.specs.Float.{binary64}
use Rattle.std.specs.Float.Ieee.{add, sub, mul}
use Rattle.std.specs.Float.Ieee.Exact.{HasValue}
use Rattle.definitions.specs.Grid.{Position, Segment}
use Rattle.definitions.specs.Spans.{distance_between}
use Rattle.definitions.specs.Hypotenuse.{root_of, sum_of_squares, hypot_of}
use Rattle.definitions.specs.Geometry.{float, point, distance, point_segment_distance}
use Rattle.laws.specs.NumberLaws.Comparisons.{le_or_lt}
use Rattle.laws.specs.NumberLaws.Squares.{square_le}
use Rattle.laws.specs.FloatLaws.Patterns.{magnitude_of}
use Rattle.laws.specs.FloatLaws.Pixels.{PixelPosition, PixelSegment}
use Rattle.laws.specs.FloatLaws.DistanceRange.{part_before, point-segment_is}
use Rattle.separations.specs.Distance.{Weights, squares, Fraction, length_square}
use Rattle.separations.specs.PlaneLaws.Sliding.{dist_scale}
use Rattle.separations.specs.PlaneLaws.Stewart.{dist_square}
use Rattle.separations.specs.PlaneLaws.Feet.{foot, foot_square, foot_is, foot-le, foot_least, scale, scaled}
use Rattle.separations.specs.ErrorLaws.RoundingErrors.{Close, close-distance}
use Rattle.separations.specs.ErrorLaws.Offsets.{Stands, stands-difference, stands-mul, stands-add, offset_error, offset_close, offset_mean}
use Rattle.separations.specs.ErrorLaws.Parameters.{Placed, placed-flat, placed-part}
use Rattle.separations.specs.ErrorLaws.Roots.{Root, root_error, ball}

-- ---- the point at t and the foot

dist_times : (x y n : ℕ) → distance_between x y * n ≡ distance_between (x * n) (y * n)
dist_times x y n = mul_comm (distance_between x y) n ∙ sym (dist_scale (x * n) (y * n) n x y (by x y n))
  where
    by : (x y n : ℕ) → x * n + n * y ≡ y * n + n * x
    by x y n = omega arith

-- weights that differ by g move a mean by at most g times the segment's extent
mean_le : (a b D w v g : ℕ) → b ≤ a + D → a ≤ b + D → (w * a + (v + g) * b ≤ (w + g) * a + v * b + g * D) × ((w + g) * a + v * b ≤ w * a + (v + g) * b + g * D)
mean_le a b D w v g h k = (omega (arith, mul-le-mul_left g h), omega (arith, mul-le-mul_left g k))

-- m and T are the weights of the point at t, of sum U; l and k the foot's, of sum n
moved : (p U n T k m l a b d D : ℕ) → m + T ≡ U → l + k ≡ n → T * n ≤ k * U + d → k * U ≤ T * n + d → distance_between b a ≤ D
    → distance_between (p * U) (m * a + T * b) * n ≤ distance_between (p * n) (l * a + k * b) * U + d * D
moved p U n T k m l a b d D eU en h g w =
    le_trans (le_of_eq (dist_times (p * U) (m * a + T * b) n))
    (le_trans (nearby ((m * a + T * b) * n) ((l * a + k * b) * U) (p * U * n) (p * n * U) (d * D) (swap p U n) means)
    (le_of_eq (ap (λ (z : ℕ). z + d * D) (sym (dist_times (p * n) (l * a + k * b) U)))))
  where
    swap : (p U n : ℕ) → p * U * n ≡ p * n * U
    swap p U n = omega arith

    nearby : (S S' W W' e : ℕ) → W ≡ W' → (S ≤ S' + e) × (S' ≤ S + e) → distance_between W S ≤ distance_between W' S' + e
    nearby S S' W W' e z q = omega (arith, q.0, q.1)

    far : (x y : ℕ) → distance_between x y ≤ D → (x ≤ y + D) × (y ≤ x + D)
    far x y h = (omega arith, omega arith)

    -- the sums of weights, both times U * n
    sums : m * n + T * n ≡ l * U + k * U
    sums = sym (add-mul m T n) ∙ ap (λ (z : ℕ). z * n) eU ∙ mul_comm U n ∙ ap (λ (z : ℕ). z * U) (sym en) ∙ add-mul l k U

    out : (m a T b n : ℕ) → (m * a + T * b) * n ≡ m * n * a + T * n * b
    out m a T b n = omega arith

    by : (M A L K : ℕ) → M + A ≡ L + K → A ≤ K + d → K ≤ A + d → (M * a + A * b ≤ L * a + K * b + d * D) × (L * a + K * b ≤ M * a + A * b + d * D)
    by M A L K s x y = elim (le_or_lt A K) [
      | inl z ↦
          let q = mean_le a b D L A (K - A) (far b a w).0 (far b a w).1 in
          let f : A + (K - A) ≡ K = omega arith in
          let e : L + (K - A) ≡ M = omega arith in
          let t : (K - A) * D ≤ d * D = mul-le-mul_right D (omega arith) in (
            le_trans (le_of_eq (λ i. sym e i * a + A * b)) (le_trans q.1 (le_trans (add-le-add (le_of_eq (λ i. L * a + f i * b)) t) (le_refl _))),
            le_trans (le_of_eq (λ i. L * a + sym f i * b)) (le_trans q.0 (add-le-add (le_of_eq (λ i. e i * a + A * b)) t)),
          )
      | inr z ↦
          let q = mean_le a b D M K (A - K) (far b a w).0 (far b a w).1 in
          let f : K + (A - K) ≡ A = omega arith in
          let e : M + (A - K) ≡ L = omega arith in
          let t : (A - K) * D ≤ d * D = mul-le-mul_right D (omega arith) in (
            le_trans (le_of_eq (λ i. M * a + sym f i * b)) (le_trans q.0 (add-le-add (le_of_eq (λ i. e i * a + K * b)) t)),
            le_trans (le_of_eq (λ i. sym e i * a + K * b)) (le_trans q.1 (add-le-add (le_of_eq (λ i. M * a + f i * b)) t)),
          )
    ]

    means : ((m * a + T * b) * n ≤ (l * a + k * b) * U + d * D) × ((l * a + k * b) * U ≤ (m * a + T * b) * n + d * D)
    means =
        let q = by (m * n) (T * n) (l * U) (k * U) sums h g in (
          le_trans (le_of_eq (out m a T b n)) (le_trans q.0 (le_of_eq (ap (λ (z : ℕ). z + d * D) (sym (out l a k b U))))),
          le_trans (le_of_eq (out l a k b U)) (le_trans q.1 (le_of_eq (ap (λ (z : ℕ). z + d * D) (sym (out m a T b n))))),
        )

-- ---- t

abbrev U : ℕ
U = 2 ^ 1074

module _ (p : Position) (t : Segment) (hp : PixelPosition p) (ht : PixelSegment t) where
  abbrev part : Float
  part = part_before (point p) (point t.a) (point t.b)

  along_x-stands : Stands (sub binary64 (float t.b.x) (float t.a.x)) t.b.x t.a.x (2 ^ 13)
  along_x-stands = stands-difference t.b.x t.a.x (2 ^ 13) ht.second.x-le ht.first.x-le (lit≤ tt)

  along_y-stands : Stands (sub binary64 (float t.b.y) (float t.a.y)) t.b.y t.a.y (2 ^ 13)
  along_y-stands = stands-difference t.b.y t.a.y (2 ^ 13) ht.second.y-le ht.first.y-le (lit≤ tt)

  to_x_stands : Stands (sub binary64 (float p.x) (float t.a.x)) p.x t.a.x (2 ^ 13)
  to_x_stands = stands-difference p.x t.a.x (2 ^ 13) hp.x-le ht.first.x-le (lit≤ tt)

  to_y_stands : Stands (sub binary64 (float p.y) (float t.a.y)) p.y t.a.y (2 ^ 13)
  to_y_stands = stands-difference p.y t.a.y (2 ^ 13) hp.y-le ht.first.y-le (lit≤ tt)

  length_is : length_square t + (t.b.x * t.a.x + t.a.x * t.b.x + (t.b.y * t.a.y + t.a.y * t.b.y)) ≡ t.b.x * t.b.x + t.a.x * t.a.x + (t.b.y * t.b.y + t.a.y * t.a.y)
  length_is = by _ _ _ _ _ _ (dist_square t.b.x t.a.x) (dist_square t.b.y t.a.y)
    where
      by : (d e a b c f : ℕ) → d + 2 * (a * b) ≡ a * a + b * b → e + 2 * (c * f) ≡ c * c + f * f → d + e + (a * b + b * a + (c * f + f * c)) ≡ a * a + b * b + (c * c + f * f)
      by d e a b c f h k = omega arith

  flat-sides : length_square t ≡ 0 → t.b.x * t.a.x + t.a.x * t.b.x + (t.b.y * t.a.y + t.a.y * t.b.y) ≡ t.b.x * t.b.x + t.a.x * t.a.x + (t.b.y * t.b.y + t.a.y * t.a.y)
  flat-sides z = by _ _ _ z length_is
    where
      by : (n u v : ℕ) → n ≡ 0 → n + u ≡ v → u ≡ v
      by n u v h k = omega arith

  t-placed : Placed part (scale t) (foot p t)
  unfolding point
  t-placed = go (eq-zero-or-pos (length_square t))
    where
      go : (length_square t ≡ 0) ⊎ (0 < length_square t) → Placed part (scale t) (foot p t)
      go (inl z) =
          let n : scale t ≡ 1 = ap (λ (w : ℕ). cond (eqb w 0) 1 w) z in
          let k : foot p t ≡ 0 = le_antisymm (le_trans (foot-le p t) (le_of_eq z)) zero-le in
          subst (λ (w : ℕ). Placed part w (foot p t)) (sym n)
          (placed-flat _ (foot p t) (stands-add (lit≤ tt) (stands-mul (lit≤ tt) along_x-stands along_x-stands) (stands-mul (lit≤ tt) along_y-stands along_y-stands)) (flat-sides z) k)
      go (inr z) =
          let n : scale t ≡ length_square t = elim (scaled t).is [ inl e ↦ absurd (not-le_of_lt z (le_of_eq e)) | inr e ↦ e ] in
          subst (λ (w : ℕ). Placed part w (foot p t)) (sym n)
          (placed-part (length_square t) (foot p t) (stands-add (lit≤ tt) (stands-mul (lit≤ tt) to_x_stands along_x-stands) (stands-mul (lit≤ tt) to_y_stands along_y-stands))
          (stands-add (lit≤ tt) (stands-mul (lit≤ tt) along_x-stands along_x-stands) (stands-mul (lit≤ tt) along_y-stands along_y-stands)) length_is (foot_is p t) z)

-- ---- the distance

-- in units, 2 ^ -34 pixel
abbrev pub separation_error : ℕ
separation_error = 2 ^ 1040

-- x is not negative, and off the root of a fraction by at most that
pub record Measured (x : Float) (f : Fraction) : Type 0 where
  pub number : ℕ
  pub value : HasValue x false number (2 ^ 1074)
  pub above : f.num * (2 ^ 1074 * 2 ^ 1074) ≤ (number + separation_error) * (number + separation_error) * f.den
  pub below : (r : ℕ) → f.num * (2 ^ 1074 * 2 ^ 1074) ≤ r * r * f.den → number ≤ r + separation_error

-- the same of numbers: X and Y are the exact offsets from the point at t, and F and G from the foot, times U and n
module _ (X Y H K F G U n w N e d j E : ℕ) (hx : H ≤ X + e) (hx' : X ≤ H + e) (hy : K ≤ Y + e) (hy' : Y ≤ K + e) where
  error_above : squares H K ≤ (N + j) * (N + j) → j + 2 * e ≤ E → squares X Y ≤ (N + E) * (N + E)
  error_above h l = le_trans (ball H K X Y (N + j) e h hx' hy') (square_le (N + j + 2 * e) (N + E) (omega arith))

  error_below : 0 < n → X * n ≤ F * U + d * n → Y * n ≤ G * U + d * n → (r : ℕ) → squares F G * (U * U) ≤ r * r * (n * n) → ((q : ℕ) → squares H K ≤ q * q → N ≤ q + j) → 2 * d + 2 * e + j ≤ E → N ≤ r + E
  error_below z fx fy r h root l =
      let a : squares (F * U) (G * U) ≤ r * n * (r * n) = le_trans (le_of_eq (out F G U)) (le_trans h (le_of_eq (mul-mul-mul_comm r r n n))) in
      let b : squares (X * n) (Y * n) ≤ (r * n + 2 * (d * n)) * (r * n + 2 * (d * n)) = ball (F * U) (G * U) (X * n) (Y * n) (r * n) (d * n) a fx fy in
      let c : squares X Y * (n * n) ≤ (r + 2 * d) * (r + 2 * d) * (n * n) = le_trans (le_of_eq (sym (out X Y n))) (le_trans b (le_of_eq (factor r d n))) in
      let g : squares X Y ≤ (r + 2 * d) * (r + 2 * d) = le_of_mul-le-mul_right c (mul-pos z z) in
      le_trans (root (r + 2 * d + 2 * e) (ball X Y H K (r + 2 * d) e g hx hy)) (omega arith)
    where
      out : (x y u : ℕ) → squares (x * u) (y * u) ≡ squares x y * (u * u)
      out x y u = omega arith

      factor : (r d n : ℕ) → (r * n + 2 * (d * n)) * (r * n + 2 * (d * n)) ≡ (r + 2 * d) * (r + 2 * d) * (n * n)
      factor r d n = omega arith

module _ (p : Position) (t : Segment) (hp : PixelPosition p) (ht : PixelSegment t) where
  placed : Placed (part p t hp ht) (scale t) (foot p t)
  placed = t-placed p t hp ht

  abbrev T : ℕ
  T = placed.parameter.units.number

  -- the exact offsets from the point at t
  abbrev off_x : ℕ
  off_x = distance_between (p.x * 2 ^ 1074) ((2 ^ 1074 - T) * t.a.x + T * t.b.x)

  abbrev off_y : ℕ
  off_y = distance_between (p.y * 2 ^ 1074) ((2 ^ 1074 - T) * t.a.y + T * t.b.y)

  abbrev argument_x : Float
  argument_x = sub binary64 (float p.x) (add binary64 (float t.a.x) (mul binary64 (part p t hp ht) (sub binary64 (float t.b.x) (float t.a.x))))

  abbrev argument_y : Float
  argument_y = sub binary64 (float p.y) (add binary64 (float t.a.y) (mul binary64 (part p t hp ht) (sub binary64 (float t.b.y) (float t.a.y))))

  distance_is : point_segment_distance (point p) (point t.a) (point t.b) ≡ root_of (sum_of_squares argument_x argument_y)
  unfolding point distance hypot_of
  distance_is = point-segment_is (point p) (point t.a) (point t.b)

  measured-x : Close argument_x (p.x * 2 ^ 1074 + (0 + T * t.a.x)) (0 + (t.a.x * 2 ^ 1074 + T * t.b.x)) offset_error (2 ^ 1090)
  measured-x = offset_close p.x t.a.x hp.x-le ht.first.x-le placed.parameter (along_x-stands p t hp ht)

  measured-y : Close argument_y (p.y * 2 ^ 1074 + (0 + T * t.a.y)) (0 + (t.a.y * 2 ^ 1074 + T * t.b.y)) offset_error (2 ^ 1090)
  measured-y = offset_close p.y t.a.y hp.y-le ht.first.y-le placed.parameter (along_y-stands p t hp ht)

  abbrev H : ℕ
  H = measured-x.units.number

  abbrev K : ℕ
  K = measured-y.units.number

  sum_is : sum_of_squares argument_x argument_y ≡ squares H K
  unfolding sum_of_squares
  sum_is = λ i. squares (magnitude_of argument_x measured-x.units.sign H measured-x.units.value i) (magnitude_of argument_y measured-y.units.sign K measured-y.units.value i)

  root : Root (squares H K) 1038
  root = root_error (squares H K) 1038 (lt_of_le_of_lt (add-le-add (mul-le-mul measured-x.upto measured-x.upto) (mul-le-mul measured-y.upto measured-y.upto)) (lit< tt)) (lit< tt)

  rest : (x y : ℕ) → y ≤ x → x - y + y ≡ x
  rest x y h = omega arith

  T-le : T ≤ 2 ^ 1074
  T-le = placed.parameter.le

  near_x_lem : (H ≤ off_x + offset_error) × (off_x ≤ H + offset_error)
  near_x_lem = subst (λ (z : ℕ). (H ≤ z + offset_error) × (z ≤ H + offset_error)) (offset_mean p.x (2 ^ 1074) T t.a.x t.b.x T-le) (close-distance measured-x)

  near_y_lem : (K ≤ off_y + offset_error) × (off_y ≤ K + offset_error)
  near_y_lem = subst (λ (z : ℕ). (K ≤ z + offset_error) × (z ≤ K + offset_error)) (offset_mean p.y (2 ^ 1074) T t.a.y t.b.y T-le) (close-distance measured-y)

  -- the point at t is a point of the segment
  weights : Weights
  weights = record { first = 2 ^ 1074 - T; second = T; some = subst (λ (z : ℕ). 0 < z) (sym (rest (2 ^ 1074) T T-le)) (pow_pos 1074) }

  foot-nearest : (foot_square p t).num * (2 ^ 1074 * 2 ^ 1074) ≤ squares off_x off_y * (foot_square p t).den
  unfolding weights
  foot-nearest =
      subst
      (λ (z : ℕ).
      (foot_square p t).num * (z * z)
      ≤ squares (distance_between (p.x * z) ((2 ^ 1074 - T) * t.a.x + T * t.b.x)) (distance_between (p.y * z) ((2 ^ 1074 - T) * t.a.y + T * t.b.y)) * (foot_square p t).den)
      (rest (2 ^ 1074) T T-le) (foot_least p t weights)

  -- it is near the foot
  abbrev foot_x : ℕ
  foot_x = distance_between (p.x * scale t) ((scale t - foot p t) * t.a.x + foot p t * t.b.x)

  abbrev foot_y : ℕ
  foot_y = distance_between (p.y * scale t) ((scale t - foot p t) * t.a.y + foot p t * t.b.y)

  square_is : foot_square p t ≡ record { num = squares foot_x foot_y; den = scale t * scale t }
  unfolding foot_square
  square_is = refl

  foot-sum : scale t - foot p t + foot p t ≡ scale t
  foot-sum = rest (scale t) (foot p t) (le_trans (foot-le p t) (scaled t).le)

  moves : (q a b : ℕ) → a ≤ 2 ^ 13 → b ≤ 2 ^ 13
      → distance_between (q * 2 ^ 1074) ((2 ^ 1074 - T) * a + T * b) * scale t ≤ distance_between (q * scale t) ((scale t - foot p t) * a + foot p t * b) * 2 ^ 1074 + 2 ^ 1035 * scale t
  moves q a b ha hb =
      le_trans
      (moved q (2 ^ 1074) (scale t) T (foot p t) (2 ^ 1074 - T) (scale t - foot p t) a b (2 ^ 1022 * scale t) (2 ^ 13) (rest (2 ^ 1074) T T-le) foot-sum placed.high placed.low (extent a b (2 ^ 13) ha hb))
      (add-le-add (le_refl (distance_between (q * scale t) ((scale t - foot p t) * a + foot p t * b) * 2 ^ 1074)) (le_of_eq (mul_right_comm (2 ^ 1022) (scale t) (2 ^ 13))))
    where
      extent : (a b m : ℕ) → a ≤ m → b ≤ m → distance_between b a ≤ m
      extent a b m h k = omega arith

  pub measured-point : Measured (point_segment_distance (point p) (point t.a) (point t.b)) (foot_square p t)
  measured-point =
      record {
        number = root.number;
        value = subst (λ (x : Float). HasValue x false root.number (2 ^ 1074)) (sym (distance_is ∙ ap root_of sum_is)) root.value;
        above = le_trans foot-nearest (mul-le-mul_right (foot_square p t).den
            (error_above off_x off_y H K 0 0 0 0 0 root.number offset_error 0 (2 ^ 1038) separation_error near_x_lem.0 near_x_lem.1 near_y_lem.0 near_y_lem.1 root.above (lit≤ tt)));
        below = λ r h.
            error_below off_x off_y H K foot_x foot_y (2 ^ 1074) (scale t) 0 root.number offset_error (2 ^ 1035) (2 ^ 1038) separation_error near_x_lem.0 near_x_lem.1 near_y_lem.0 near_y_lem.1 (scaled t).some
            (moves p.x t.a.x t.b.x ht.first.x-le ht.second.x-le) (moves p.y t.a.y t.b.y ht.first.y-le ht.second.y-le) r
            (subst (λ (f : Fraction). f.num * (2 ^ 1074 * 2 ^ 1074) ≤ r * r * f.den) square_is h) root.below (lit≤ tt);
      }
