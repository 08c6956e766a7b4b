-- Two segments that share a point pass `intersects`. Where they are parallel the common point slides to an end of one, which is then on the other. Where they
-- are not, and the common point is no end, the ends of each lie on different sides of the other's line: the side values of s's ends, weighted as the point is,
-- add up to zero. Assumes nothing.
use Rattle.std.specs.Prelude.{◌≡◌, refl, true, not, ◌&&◌, ℕ, zero, suc, ◌+◌, ◌*◌, ◌≤◌, ◌<◌}
use Rattle.std.proofs.Common.{sym, ap, ◌∙◌, subst, inl, inr, add-mul, mul-add, add_assoc, add_comm, mul_assoc, mul_comm, mul_left_comm, mul-pos, eq-zero-or-pos, arith, ne_eqb}
use Rattle.std.proofs.Math.Nat.{add_left_comm, eq_of_mul-eq-mul_right, mul-lt-mul_of_pos_left}
use Rattle.std.proofs.Math.Decide.{ℕ_discrete}
use Rattle.definitions.specs.Grid.{Position, Segment}
use Rattle.definitions.specs.Spans.{distance_between, cross}
use Rattle.definitions.specs.RampGeometry.{signum, intersects}
use Rattle.separations.specs.Distance.{Weights, total, along_x, along_y, squares, whole, apart, SharePoint}
use Rattle.separations.specs.PlaneLaws.Signs.{Sign, sign_is, cross_more, cross_less, is_cross}
use Rattle.separations.specs.PlaneLaws.Sliding.{PointNear, point_apart}
use Rattle.separations.specs.PlaneLaws.Rates.{across_more, across_less, Ends, start_first, end_first, start_second, end_second, reach-parallel}
use Rattle.separations.specs.PlaneLaws.Meeting.{OnIt, on_test}
use Rattle.separations.specs.PlaneLaws.Crossing.{sides_test, intersects_is, one, two, three, four, five, FoundIn, finds}

-- ---- squares that are zero

pub squares-zero : (x y : ℕ) → squares x y ≡ 0 → (x ≡ 0) × (y ≡ 0)
squares-zero zero zero h = (refl, refl)
squares-zero zero (suc y) h = absurd (omega arith)
squares-zero (suc x) y h = absurd (omega arith)

pub dist_zero : (x y : ℕ) → distance_between x y ≡ 0 → x ≡ y
dist_zero x y h = omega arith

pub zero_dist : (x y : ℕ) → x ≡ y → distance_between x y ≡ 0
zero_dist x y h = omega arith

pub near_on : {p : Position} {t : Segment} {W : ℕ} → 0 < W → PointNear p t 0 W → OnIt t p
near_on {p} {t} {W} z h =
    let v = h.at in
    let none : point_apart p t v ≡ 0 = factor (point_apart p t v) (W * W) (total v * total v) (mul-pos z z) h.near in
    let w = squares-zero (distance_between (p.x * total v) (along_x t v)) (distance_between (p.y * total v) (along_y t v)) none in
    record { at = v; in_x = sym (dist_zero (p.x * total v) (along_x t v) w.0); in_y = sym (dist_zero (p.y * total v) (along_y t v) w.1) }
  where
    factor : (x y q : ℕ) → 0 < y → x * y ≤ 0 * q → x ≡ 0
    factor zero y q p h = refl
    factor (suc x) y q p h = absurd (omega arith)

-- ---- the side values, weighted

module _ (m n k l ax ay bx by cx cy dx dy : ℕ) (hx : (m * ax + n * bx) * (k + l) ≡ (k * cx + l * dx) * (m + n)) (hy : (m * ay + n * by) * (k + l) ≡ (k * cy + l * dy) * (m + n)) (some : 0 < k + l) where
  more : m * (dx * ay + cx * cy + (dy * cx + cy * ax)) + n * (dx * by + cx * cy + (dy * cx + cy * bx)) ≡ dx * (m * ay + n * by) + (m + n) * (cx * cy) + ((m + n) * (dy * cx) + cy * (m * ax + n * bx))
  more = simp (add-mul, mul-add, mul_comm, mul_left_comm, add_assoc, add_comm, add_left_comm) refl

  fewer : m * (dx * cy + cx * ay + (dy * ax + cy * cx)) + n * (dx * cy + cx * by + (dy * bx + cy * cx)) ≡ (m + n) * (dx * cy) + cx * (m * ay + n * by) + (dy * (m * ax + n * bx) + (m + n) * (cx * cy))
  fewer = simp (add-mul, mul-add, mul_comm, mul_left_comm, add_assoc, add_comm, add_left_comm) refl

  on_both : dx * ((k * cy + l * dy) * (m + n)) + (m + n) * (cx * cy) * (k + l) + ((m + n) * (dy * cx) * (k + l) + cy * ((k * cx + l * dx) * (m + n)))
      ≡ (m + n) * (dx * cy) * (k + l) + cx * ((k * cy + l * dy) * (m + n)) + (dy * ((k * cx + l * dx) * (m + n)) + (m + n) * (cx * cy) * (k + l))
  on_both = simp (add-mul, mul-add, mul_assoc, mul_comm, mul_left_comm, add_assoc, add_comm, add_left_comm) refl

  times : (x y u v w z : ℕ) → (x * u + v + (w + y * z)) * (k + l) ≡ x * (u * (k + l)) + v * (k + l) + (w * (k + l) + y * (z * (k + l)))
  times x y u v w z = simp (add-mul, mul-add, mul_assoc, mul_comm, mul_left_comm, add_assoc, add_comm, add_left_comm) refl

  times' : (x y u v w z : ℕ) → (v + x * u + (y * z + w)) * (k + l) ≡ v * (k + l) + x * (u * (k + l)) + (y * (z * (k + l)) + w * (k + l))
  times' x y u v w z = simp (add-mul, mul-add, mul_assoc, mul_comm, mul_left_comm, add_assoc, add_comm, add_left_comm) refl

  weighted : m * (dx * ay + cx * cy + (dy * cx + cy * ax)) + n * (dx * by + cx * cy + (dy * cx + cy * bx)) ≡ m * (dx * cy + cx * ay + (dy * ax + cy * cx)) + n * (dx * cy + cx * by + (dy * bx + cy * cx))
  weighted =
      more
      ∙ eq_of_mul-eq-mul_right (k + l) some _ _
      (times dx cy (m * ay + n * by) ((m + n) * (cx * cy)) ((m + n) * (dy * cx)) (m * ax + n * bx)
      ∙ (λ i. dx * hy i + (m + n) * (cx * cy) * (k + l) + ((m + n) * (dy * cx) * (k + l) + cy * hx i))
      ∙ on_both
      ∙ (λ i. (m + n) * (dx * cy) * (k + l) + cx * sym hy i + (dy * sym hx i + (m + n) * (cx * cy) * (k + l)))
      ∙ sym (times' cx dy (m * ay + n * by) ((m + n) * (dx * cy)) ((m + n) * (cx * cy)) (m * ax + n * bx)))
      ∙ sym fewer

side-difference : (ax ay bx by cx cy dx dy : ℕ)
    → dx * ay + cx * cy + (dy * cx + cy * ax) + (dx * cy + cx * by + (dy * bx + cy * cx)) + (bx * cy + ax * dy + (by * dx + ay * cx))
    ≡ dx * cy + cx * ay + (dy * ax + cy * cx) + (dx * by + cx * cy + (dy * cx + cy * bx)) + (bx * dy + ax * cy + (by * cx + ay * dx))
side-difference ax ay bx by cx cy dx dy = simp (mul_comm, add_assoc, add_comm, add_left_comm) refl

-- two numbers of one sign do not cancel out
one_sign : (i : ℕ) (m n p q p' q' : ℕ) → 0 < m → 0 < n → Sign i p q → Sign i p' q' → m * p + n * p' ≡ m * q + n * q' → (p ≡ q) × (p' ≡ q')
one_sign zero m n p q p' q' a b h k e = absurd (omega (arith, mul-lt-mul_of_pos_left h a, mul-lt-mul_of_pos_left k b))
one_sign (suc zero) m n p q p' q' a b h k e = (h, k)
one_sign (suc (suc zero)) m n p q p' q' a b h k e = absurd (omega (arith, mul-lt-mul_of_pos_left h a, mul-lt-mul_of_pos_left k b))
one_sign (suc (suc (suc i))) m n p q p' q' a b h k e = absurd h

different_sides : (s t : Segment) (h : SharePoint s t) → 0 < h.on_first.first → 0 < h.on_first.second → (across_more s t ≡ across_less s t → ⊥) → sides_test t s ≡ true
different_sides s t h a b n = ap not (ne_eqb (signum (cross t.a t.b s.a)) (signum (cross t.a t.b s.b)) (λ e. n (level e)))
  where
    u : Weights
    u = h.on_first

    v : Weights
    v = h.on_second

    zero-sum : u.first * cross_more t.a t.b s.a + u.second * cross_more t.a t.b s.b ≡ u.first * cross_less t.a t.b s.a + u.second * cross_less t.a t.b s.b
    zero-sum = weighted u.first u.second v.first v.second s.a.x s.a.y s.b.x s.b.y t.a.x t.a.y t.b.x t.b.y h.same.0 h.same.1 v.some

    linear : (C C- D D- P N : ℕ) → C + D- + N ≡ C- + D + P → C ≡ C- → D ≡ D- → P ≡ N
    linear C C- D D- P N e f g = omega arith

    level : signum (cross t.a t.b s.a) ≡ signum (cross t.a t.b s.b) → across_more s t ≡ across_less s t
    level e =
        let z = one_sign (signum (cross t.a t.b s.a)) u.first u.second _ _ _ _ a b (sign_is (cross t.a t.b s.a) (is_cross t.a t.b s.a))
        (subst (λ (i : ℕ). Sign i (cross_more t.a t.b s.b) (cross_less t.a t.b s.b)) (sym e) (sign_is (cross t.a t.b s.b) (is_cross t.a t.b s.b))) zero-sum in
        linear (cross_more t.a t.b s.a) (cross_less t.a t.b s.a) (cross_more t.a t.b s.b) (cross_less t.a t.b s.b) (across_more s t) (across_less s t)
        (side-difference s.a.x s.a.y s.b.x s.b.y t.a.x t.a.y t.b.x t.b.y) z.0 z.1

-- ---- the common point is an end

abbrev pub share-turn : {s t : Segment} → SharePoint s t → SharePoint t s
share-turn h = record { on_first = h.on_second; on_second = h.on_first; same = (sym h.same.0, sym h.same.1) }

-- of the first segment: its second end, its first end
end_of : (s t : Segment) (h : SharePoint s t) → h.on_first.first ≡ 0 → OnIt t s.b
end_of s t h z =
    record {
      at = h.on_second;
      in_x = by h.on_first.first h.on_first.second s.a.x s.b.x (total h.on_second) (along_x t h.on_second) h.on_first.some z h.same.0;
      in_y = by h.on_first.first h.on_first.second s.a.y s.b.y (total h.on_second) (along_y t h.on_second) h.on_first.some z h.same.1;
    }
  where
    by : (m n a b T K : ℕ) → 0 < m + n → m ≡ 0 → (m * a + n * b) * T ≡ K * (m + n) → K ≡ b * T
    by m n a b T K p z e =
        let f : (0 * a + n * b) * T ≡ K * (0 + n) = subst (λ (m : ℕ). (m * a + n * b) * T ≡ K * (m + n)) z e in
        eq_of_mul-eq-mul_right n (omega arith) K (b * T) (omega arith)

start_of : (s t : Segment) (h : SharePoint s t) → h.on_first.second ≡ 0 → OnIt t s.a
start_of s t h z =
    record {
      at = h.on_second;
      in_x = by h.on_first.first h.on_first.second s.a.x s.b.x (total h.on_second) (along_x t h.on_second) h.on_first.some z h.same.0;
      in_y = by h.on_first.first h.on_first.second s.a.y s.b.y (total h.on_second) (along_y t h.on_second) h.on_first.some z h.same.1;
    }
  where
    by : (m n a b T K : ℕ) → 0 < m + n → n ≡ 0 → (m * a + n * b) * T ≡ K * (m + n) → K ≡ a * T
    by m n a b T K p z e =
        let f : (m * a + 0 * b) * T ≡ K * (m + 0) = subst (λ (n : ℕ). (m * a + n * b) * T ≡ K * (m + n)) z e in
        eq_of_mul-eq-mul_right m (omega arith) K (a * T) (omega arith)

across-turn : (s t : Segment) → across_more t s ≡ across_less t s → across_more s t ≡ across_less s t
across-turn s t e = same s.a.x s.a.y s.b.x s.b.y t.a.x t.a.y t.b.x t.b.y e
  where
    same : (ax ay bx by cx cy dx dy : ℕ) → dx * by + cx * ay + (dy * ax + cy * bx) ≡ dx * ay + cx * by + (dy * bx + cy * ax) → bx * dy + ax * cy + (by * cx + ay * dx) ≡ bx * cy + ax * dy + (by * dx + ay * cx)
    same ax ay bx by cx cy dx dy e = omega arith

-- ---- `intersects`

parallel-found : (s t : Segment) → SharePoint s t → across_more s t ≡ across_less s t → FoundIn s t
parallel-found s t h e = go (subst (λ (d : ℕ). Ends s t d (whole h.on_first h.on_second)) none (reach-parallel s t h.on_first h.on_second e))
  where
    none : apart s h.on_first t h.on_second ≡ 0
    none = λ i. squares (zero_dist _ _ h.same.0 i) (zero_dist _ _ h.same.1 i)

    some : 0 < whole h.on_first h.on_second
    some = mul-pos h.on_first.some h.on_second.some

    go : Ends s t 0 (whole h.on_first h.on_second) → FoundIn s t
    go (start_first p) = three (on_test t s.a (near_on some p))
    go (end_first p) = four (on_test t s.b (near_on some p))
    go (start_second p) = one (on_test s t.a (near_on some p))
    go (end_second p) = two (on_test s t.b (near_on some p))

crossing-found : (s t : Segment) → SharePoint s t → (across_more s t ≡ across_less s t → ⊥) → FoundIn s t
crossing-found s t h n = elim (eq-zero-or-pos h.on_first.first) [
  | inl z ↦ four (on_test t s.b (end_of s t h z))
  | inr a ↦ elim (eq-zero-or-pos h.on_first.second) [
    | inl z ↦ three (on_test t s.a (start_of s t h z))
    | inr b ↦ elim (eq-zero-or-pos h.on_second.first) [
      | inl z ↦ two (on_test s t.b (end_of t s (share-turn h) z))
      | inr c ↦ elim (eq-zero-or-pos h.on_second.second) [
        | inl z ↦ one (on_test s t.a (start_of t s (share-turn h) z))
        | inr d ↦ five (λ i. different_sides t s (share-turn h) c d (λ e. n (across-turn s t e)) i && different_sides s t h a b n i)
      ]
    ]
  ]
]

shared-found : (s t : Segment) → SharePoint s t → FoundIn s t
shared-found s t h = elim (ℕ_discrete (across_more s t) (across_less s t)) [ yes e ↦ parallel-found s t h e | no n ↦ crossing-found s t h n ]

pub share-intersects : (s t : Segment) → SharePoint s t → intersects s t ≡ true
share-intersects s t h = intersects_is s t ∙ finds (shared-found s t h)
