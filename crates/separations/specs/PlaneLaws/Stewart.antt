-- Squares of differences of naturals, and Stewart's theorem: for a mean of a segment's ends with weights i and j, distance ^ 2 * (i + j) ^ 2 + i * j * length ^
-- 2 = (i + j) * (i * a + j * b), a and b being the squared distances from the ends. No number here has a sign. Assumes nothing.
use Rattle.std.specs.Prelude.{◌≡◌, refl, ℕ, ◌+◌, ◌-◌, ◌*◌, ◌≤◌}
use Rattle.std.proofs.Common.{sym, ap, ◌∙◌, subst, inl, inr, le_trans, le_of_eq, le_of_lt, arith}
use Rattle.definitions.specs.Grid.{Position, Segment}
use Rattle.definitions.specs.Spans.{distance_between}
use Rattle.laws.specs.NumberLaws.Comparisons.{le_or_lt}
use Rattle.separations.specs.Distance.{Weights, total, length_square, end_square}
use Rattle.separations.specs.PlaneLaws.Sliding.{dist_up, dist_down, point_apart}

-- ---- squares of differences

pub dist_square : (a b : ℕ) → distance_between a b * distance_between a b + 2 * (a * b) ≡ a * a + b * b
dist_square a b = elim (le_or_lt a b) [ inl h ↦ up (b - a) (over b a h) | inr h ↦ down (a - b) (over a b (le_of_lt h)) ]
  where
    over : (x y : ℕ) → y ≤ x → x ≡ y + (x - y)
    over x y h = omega arith

    up : (d : ℕ) → b ≡ a + d → distance_between a b * distance_between a b + 2 * (a * b) ≡ a * a + b * b
    up d e = subst (λ (z : ℕ). distance_between a z * distance_between a z + 2 * (a * z) ≡ a * a + z * z) (sym e) (ap (λ (z : ℕ). z * z + 2 * (a * (a + d))) (dist_up a d) ∙ by a d)
      where
        by : (a d : ℕ) → d * d + 2 * (a * (a + d)) ≡ a * a + (a + d) * (a + d)
        by a d = omega arith

    down : (d : ℕ) → a ≡ b + d → distance_between a b * distance_between a b + 2 * (a * b) ≡ a * a + b * b
    down d e = subst (λ (z : ℕ). distance_between z b * distance_between z b + 2 * (z * b) ≡ z * z + b * b) (sym e) (ap (λ (z : ℕ). z * z + 2 * ((b + d) * b)) (dist_down b d) ∙ by b d)
      where
        by : (b d : ℕ) → d * d + 2 * ((b + d) * b) ≡ (b + d) * (b + d) + b * b
        by b d = omega arith

-- 2 * x * y is at most x ^ 2 + y ^ 2
pub twice-product : (x y : ℕ) → 2 * (x * y) ≤ x * x + y * y
twice-product x y = le_trans (by (distance_between x y * distance_between x y) (2 * (x * y))) (le_of_eq (dist_square x y))
  where
    by : (u v : ℕ) → v ≤ u + v
    by u v = omega arith

-- ---- Stewart's theorem

-- with T = i + j and S = i * A + j * B
stewart_by : (P A B i j T S X N a b : ℕ) → T ≡ i + j → S ≡ i * A + j * B → X + 2 * (P * T * S) ≡ P * T * (P * T) + S * S → N + 2 * (B * A) ≡ B * B + A * A → a + 2 * (P * A) ≡ P * P + A * A
    → b + 2 * (P * B) ≡ P * P + B * B → X + i * j * N ≡ T * (i * a + j * b)
stewart_by P A B i j T S X N a b eT eS h1 h2 h3 h4 =
    linear X (T * i * (P * A)) (T * j * (P * B)) (P * T * S) (T * T * (P * P)) (S * S) (i * j * N) (T * i * (A * A)) (T * j * (B * B)) (T * i * a) (T * j * b) (T * i * (P * P)) (T * j * (P * P))
    (h1 ∙ ap (λ (z : ℕ). z + S * S) (again P T)) (ap (λ (z : ℕ). P * T * z) eS ∙ across P T i j A B) squared (times i A a h3) (times j B b h4) (ap (λ (z : ℕ). T * z * (P * P)) eT ∙ split T i j (P * P))
    ∙ gather T i j a b
  where
    again : (P T : ℕ) → P * T * (P * T) ≡ T * T * (P * P)
    again P T = omega arith

    across : (P T i j A B : ℕ) → P * T * (i * A + j * B) ≡ T * i * (P * A) + T * j * (P * B)
    across P T i j A B = omega arith

    split : (T i j Q : ℕ) → T * (i + j) * Q ≡ T * i * Q + T * j * Q
    split T i j Q = omega arith

    gather : (T i j a b : ℕ) → T * i * a + T * j * b ≡ T * (i * a + j * b)
    gather T i j a b = omega arith

    times : (w C c : ℕ) → c + 2 * (P * C) ≡ P * P + C * C → T * w * c + 2 * (T * w * (P * C)) ≡ T * w * (P * P) + T * w * (C * C)
    times w C c e = over (T * w) (P * C) (P * P) (C * C) e
      where
        over : (z x y v : ℕ) → c + 2 * x ≡ y + v → z * c + 2 * (z * x) ≡ z * y + z * v
        over z x y v e = omega (arith, ap (λ (q : ℕ). z * q) e)

    squared : S * S + i * j * N ≡ T * i * (A * A) + T * j * (B * B)
    squared = ap (λ (z : ℕ). z * z + i * j * N) eS ∙ poly i j A B N h2 ∙ ap (λ (z : ℕ). z * i * (A * A) + z * j * (B * B)) (sym eT)
      where
        poly : (i j A B N : ℕ) → N + 2 * (B * A) ≡ B * B + A * A → (i * A + j * B) * (i * A + j * B) + i * j * N ≡ (i + j) * i * (A * A) + (i + j) * j * (B * B)
        poly i j A B N e = omega (arith, ap (λ (z : ℕ). i * j * z) e)

    linear : (X tA tB PTS TTPP SS ijN iAA jBB ia jb iPP jPP : ℕ) → X + 2 * PTS ≡ TTPP + SS → PTS ≡ tA + tB → SS + ijN ≡ iAA + jBB → ia + 2 * tA ≡ iPP + iAA → jb + 2 * tB ≡ jPP + jBB → TTPP ≡ iPP + jPP
        → X + ijN ≡ ia + jb
    linear X tA tB PTS TTPP SS ijN iAA jBB ia jb iPP jPP p1 p2 p3 p4 p5 p6 = omega arith

on_axis : (P A B i j : ℕ)
    → distance_between (P * (i + j)) (i * A + j * B) * distance_between (P * (i + j)) (i * A + j * B) + i * j * (distance_between B A * distance_between B A)
    ≡ (i + j) * (i * (distance_between P A * distance_between P A) + j * (distance_between P B * distance_between P B))
on_axis P A B i j =
    stewart_by P A B i j (i + j) (i * A + j * B) (distance_between (P * (i + j)) (i * A + j * B) * distance_between (P * (i + j)) (i * A + j * B)) (distance_between B A * distance_between B A)
    (distance_between P A * distance_between P A) (distance_between P B * distance_between P B) refl refl
    (dist_square (P * (i + j)) (i * A + j * B)) (dist_square B A) (dist_square P A) (dist_square P B)

pub stewart : (p : Position) (t : Segment) (v : Weights)
    → point_apart p t v + v.first * v.second * length_square t ≡ total v * (v.first * end_square p t.a + v.second * end_square p t.b)
stewart p t v = by v.first v.second _ _ _ _ _ _ _ _ (on_axis p.x t.a.x t.b.x v.first v.second) (on_axis p.y t.a.y t.b.y v.first v.second)
  where
    by : (i j X Y N N' a b a' b' : ℕ) → X + i * j * N ≡ (i + j) * (i * a + j * b) → Y + i * j * N' ≡ (i + j) * (i * a' + j * b') → X + Y + i * j * (N + N') ≡ (i + j) * (i * (a + a') + j * (b + b'))
    by i j X Y N N' a b a' b' h k = omega arith
