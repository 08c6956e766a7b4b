-- Two segments that pass `intersects` share a point (`intersects-share`). Where their ends lie on different sides of each other's lines they cross at the point
-- whose weights are the four side values; the other tests say that an end is on the other segment (Meeting). The converse stands in Sharing. Assumes nothing.
use Rattle.std.specs.Prelude.{◌≡◌, refl, Bool, true, false, not, ◌&&◌, ◌||◌, ℕ, zero, suc, ◌+◌, ◌-◌, ◌*◌, ◌≤◌, ◌<◌, eqb}
use Rattle.std.proofs.Common.{sym, ap, ◌∙◌, le_of_eq, lt_of_lt_of_le, add-mul, add_assoc, add_comm, mul_assoc, mul_comm, mul_left_comm, zero-lt-suc, arith}
use Rattle.std.proofs.Math.Bool.{or-true}
use Rattle.std.proofs.Math.Nat.{add_left_comm}
use Rattle.std.proofs.lemmas.Bool.{eqb-false, not-true}
use Rattle.definitions.specs.Grid.{Position, Segment}
use Rattle.definitions.specs.Spans.{cross, on_segment, is_zero}
use Rattle.definitions.specs.RampGeometry.{signum, intersects}
use Rattle.laws.specs.ListLaws.Tests.{both}
use Rattle.separations.specs.Distance.{Weights, SharePoint}
use Rattle.separations.specs.PlaneLaws.Signs.{Sign, sign_is, cross_more, cross_less, is_cross}
use Rattle.separations.specs.PlaneLaws.Meeting.{OnIt, test_on}

-- ---- different sides

data Opposite (p n q m : ℕ) : Type 0 where
  rises : p ≤ n → m ≤ q → p + m < n + q → Opposite p n q m
  falls : n ≤ p → q ≤ m → n + q < p + m → Opposite p n q m

opposite : (i j : ℕ) {p n q m : ℕ} → Sign i p n → Sign j q m → (i ≡ j → ⊥) → Opposite p n q m
opposite zero zero h k e = absurd (e refl)
opposite zero (suc zero) h k e = rises (omega arith) (omega arith) (omega arith)
opposite zero (suc (suc zero)) h k e = rises (omega arith) (omega arith) (omega arith)
opposite zero (suc (suc (suc j))) h k e = absurd k
opposite (suc zero) zero h k e = falls (omega arith) (omega arith) (omega arith)
opposite (suc zero) (suc zero) h k e = absurd (e refl)
opposite (suc zero) (suc (suc zero)) h k e = rises (omega arith) (omega arith) (omega arith)
opposite (suc zero) (suc (suc (suc j))) h k e = absurd k
opposite (suc (suc zero)) zero h k e = falls (omega arith) (omega arith) (omega arith)
opposite (suc (suc zero)) (suc zero) h k e = falls (omega arith) (omega arith) (omega arith)
opposite (suc (suc zero)) (suc (suc zero)) h k e = absurd (e refl)
opposite (suc (suc zero)) (suc (suc (suc j))) h k e = absurd k
opposite (suc (suc (suc i))) j h k e = absurd h

-- ---- the crossing point: the side values as weights

-- in x; in y it is this with x and y changed, and with them all signs
weights_identity : (ax ay bx by cx cy dx dy : ℕ)
    → (dx * cy + cx * by + (dy * bx + cy * cx)) * ax + (dx * ay + cx * cy + (dy * cx + cy * ax)) * bx + ((bx * ay + ax * dy + (by * dx + ay * ax)) * cx + (bx * cy + ax * ay + (by * ax + ay * cx)) * dx)
    ≡ (dx * by + cx * cy + (dy * cx + cy * bx)) * ax + (dx * cy + cx * ay + (dy * ax + cy * cx)) * bx + ((bx * dy + ax * ay + (by * ax + ay * dx)) * cx + (bx * ay + ax * cy + (by * cx + ay * ax)) * dx)
weights_identity ax ay bx by cx cy dx dy = simp (add-mul, mul_assoc, mul_comm, mul_left_comm, add_assoc, add_comm, add_left_comm) refl

weights_identity_y : (ax ay bx by cx cy dx dy : ℕ)
    → (dx * cy + cx * by + (dy * bx + cy * cx)) * ay + (dx * ay + cx * cy + (dy * cx + cy * ax)) * by + ((bx * ay + ax * dy + (by * dx + ay * ax)) * cy + (bx * cy + ax * ay + (by * ax + ay * cx)) * dy)
    ≡ (dx * by + cx * cy + (dy * cx + cy * bx)) * ay + (dx * cy + cx * ay + (dy * ax + cy * cx)) * by + ((bx * dy + ax * ay + (by * ax + ay * dx)) * cy + (bx * ay + ax * cy + (by * cx + ay * ax)) * dy)
weights_identity_y ax ay bx by cx cy dx dy = simp (add-mul, mul_assoc, mul_comm, mul_left_comm, add_assoc, add_comm, add_left_comm) refl

sum_identity : (ax ay bx by cx cy dx dy : ℕ)
    → dx * ay + cx * cy + (dy * cx + cy * ax) + (bx * cy + ax * ay + (by * ax + ay * cx)) + (bx * ay + ax * dy + (by * dx + ay * ax) + (dx * cy + cx * by + (dy * bx + cy * cx)))
    ≡ dx * cy + cx * ay + (dy * ax + cy * cx) + (bx * ay + ax * cy + (by * cx + ay * ax)) + (bx * dy + ax * ay + (by * ax + ay * dx) + (dx * by + cx * cy + (dy * cx + cy * bx)))
sum_identity ax ay bx by cx cy dx dy = omega arith

-- whichever way the sides go
cross-point : (ax bx cx dx m n k l mP mN nP nN kP kN lP lN : ℕ) → m + mN ≡ mP → n + nN ≡ nP → k + kN ≡ kP → l + lN ≡ lP → mP * ax + nP * bx + (kN * cx + lN * dx) ≡ mN * ax + nN * bx + (kP * cx + lP * dx)
    → m * ax + n * bx ≡ k * cx + l * dx
cross-point ax bx cx dx m n k l mP mN nP nN kP kN lP lN em en ek el h =
    linear (m * ax) (n * bx) (k * cx) (l * dx) (mP * ax) (mN * ax) (nP * bx) (nN * bx) (kP * cx) (kN * cx) (lP * dx) (lN * dx) (times m mN mP ax em) (times n nN nP bx en) (times k kN kP cx ek) (times l lN lP dx el) h
  where
    times : (u v w z : ℕ) → u + v ≡ w → u * z + v * z ≡ w * z
    times u v w z e = omega (arith, ap (λ (x : ℕ). x * z) e)

    linear : (m n k l mP mN nP nN kP kN lP lN : ℕ) → m + mN ≡ mP → n + nN ≡ nP → k + kN ≡ kP → l + lN ≡ lP → mP + nP + (kN + lN) ≡ mN + nN + (kP + lP) → m + n ≡ k + l
    linear m n k l mP mN nP nN kP kN lP lN a b c d e = omega arith

module _ (s t : Segment) where
  -- the sides of t's ends, of s's ends
  abbrev A : ℕ
  A = cross_more s.a s.b t.a

  abbrev A- : ℕ
  A- = cross_less s.a s.b t.a

  abbrev B : ℕ
  B = cross_more s.a s.b t.b

  abbrev B- : ℕ
  B- = cross_less s.a s.b t.b

  abbrev C : ℕ
  C = cross_more t.a t.b s.a

  abbrev C- : ℕ
  C- = cross_less t.a t.b s.a

  abbrev D : ℕ
  D = cross_more t.a t.b s.b

  abbrev D- : ℕ
  D- = cross_less t.a t.b s.b

  sides : C + A + (B- + D-) ≡ C- + A- + (B + D)
  sides = sum_identity s.a.x s.a.y s.b.x s.b.y t.a.x t.a.y t.b.x t.b.y

  in_x_lem : D- * s.a.x + C * s.b.x + (B- * t.a.x + A * t.b.x) ≡ D * s.a.x + C- * s.b.x + (B * t.a.x + A- * t.b.x)
  in_x_lem = weights_identity s.a.x s.a.y s.b.x s.b.y t.a.x t.a.y t.b.x t.b.y

  in_y_lem : D- * s.a.y + C * s.b.y + (B- * t.a.y + A * t.b.y) ≡ D * s.a.y + C- * s.b.y + (B * t.a.y + A- * t.b.y)
  in_y_lem = weights_identity_y s.a.x s.a.y s.b.x s.b.y t.a.x t.a.y t.b.x t.b.y

  shared_at : (m n k l : ℕ) → 0 < m + n → m + n ≡ k + l → m * s.a.x + n * s.b.x ≡ k * t.a.x + l * t.b.x → m * s.a.y + n * s.b.y ≡ k * t.a.y + l * t.b.y → SharePoint s t
  shared_at m n k l z e x y =
      record {
        on_first = record { first = m; second = n; some = z };
        on_second = record { first = k; second = l; some = lt_of_lt_of_le z (le_of_eq e) };
        same = ((λ i. x i * sym e i), (λ i. y i * sym e i));
      }

  share-crossing : Opposite A A- B B- → Opposite C C- D D- → SharePoint s t
  share-crossing (rises a b c) (rises d e f) = absurd (against A A- B B- C C- D D- sides c f)
    where
      against : (A A- B B- C C- D D- : ℕ) → C + A + (B- + D-) ≡ C- + A- + (B + D) → A + B- < A- + B → C + D- < C- + D → ⊥
      against A A- B B- C C- D D- h k l = omega arith
  share-crossing (falls a b c) (falls d e f) = absurd (against A A- B B- C C- D D- sides c f)
    where
      against : (A A- B B- C C- D D- : ℕ) → C + A + (B- + D-) ≡ C- + A- + (B + D) → A- + B < A + B- → C- + D < C + D- → ⊥
      against A A- B B- C C- D D- h k l = omega arith
  share-crossing (rises a b c) (falls d e f) =
      let m : D- - D + D ≡ D- = rest D- D e in
      let n : C - C- + C- ≡ C = rest C C- d in
      let k : B - B- + B- ≡ B = rest B B- b in
      let l : A- - A + A ≡ A- = rest A- A a in
      shared_at (D- - D) (C - C-) (B - B-) (A- - A) (positive C C- D D- f) (level A A- B B- C C- D D- sides a b d e)
      (cross-point s.a.x s.b.x t.a.x t.b.x (D- - D) (C - C-) (B - B-) (A- - A) D- D C C- B B- A- A m n k l in_x_lem)
      (cross-point s.a.y s.b.y t.a.y t.b.y (D- - D) (C - C-) (B - B-) (A- - A) D- D C C- B B- A- A m n k l in_y_lem)
    where
      rest : (x y : ℕ) → y ≤ x → x - y + y ≡ x
      rest x y h = omega arith

      positive : (C C- D D- : ℕ) → C- + D < C + D- → 0 < D- - D + (C - C-)
      positive C C- D D- h = omega arith

      level : (A A- B B- C C- D D- : ℕ) → C + A + (B- + D-) ≡ C- + A- + (B + D) → A ≤ A- → B- ≤ B → C- ≤ C → D ≤ D- → D- - D + (C - C-) ≡ B - B- + (A- - A)
      level A A- B B- C C- D D- h a b c d = omega arith
  share-crossing (falls a b c) (rises d e f) =
      let m : D - D- + D- ≡ D = rest D D- e in
      let n : C- - C + C ≡ C- = rest C- C d in
      let k : B- - B + B ≡ B- = rest B- B b in
      let l : A - A- + A- ≡ A = rest A A- a in
      shared_at (D - D-) (C- - C) (B- - B) (A - A-) (positive C C- D D- f) (level A A- B B- C C- D D- sides a b d e)
      (cross-point s.a.x s.b.x t.a.x t.b.x (D - D-) (C- - C) (B- - B) (A - A-) D D- C- C B- B A A- m n k l (sym in_x_lem))
      (cross-point s.a.y s.b.y t.a.y t.b.y (D - D-) (C- - C) (B- - B) (A - A-) D D- C- C B- B A A- m n k l (sym in_y_lem))
    where
      rest : (x y : ℕ) → y ≤ x → x - y + y ≡ x
      rest x y h = omega arith

      positive : (C C- D D- : ℕ) → C + D- < C- + D → 0 < D - D- + (C- - C)
      positive C C- D D- h = omega arith

      level : (A A- B B- C C- D D- : ℕ) → C + A + (B- + D-) ≡ C- + A- + (B + D) → A- ≤ A → B ≤ B- → C ≤ C- → D- ≤ D → D - D- + (C- - C) ≡ B- - B + (A - A-)
      level A A- B B- C C- D D- h a b c d = omega arith

-- ---- an end on the other segment

abbrev start : Weights
start = record { first = 1; second = 0; some = zero-lt-suc 0 }

abbrev end : Weights
end = record { first = 0; second = 1; some = zero-lt-suc 0 }

at_start : (a b T S : ℕ) → S ≡ a * T → S * 1 ≡ (1 * a + 0 * b) * T
at_start a b T S e = omega arith

at-end : (a b T S : ℕ) → S ≡ b * T → S * 1 ≡ (0 * a + 1 * b) * T
at-end a b T S e = omega arith

on_first-start : (s t : Segment) → OnIt t s.a → SharePoint s t
on_first-start s t h = record { on_first = start; on_second = h.at; same = (sym (at_start s.a.x s.b.x _ _ h.in_x), sym (at_start s.a.y s.b.y _ _ h.in_y)) }

on_first-end : (s t : Segment) → OnIt t s.b → SharePoint s t
on_first-end s t h = record { on_first = end; on_second = h.at; same = (sym (at-end s.a.x s.b.x _ _ h.in_x), sym (at-end s.a.y s.b.y _ _ h.in_y)) }

on_second-start : (s t : Segment) → OnIt s t.a → SharePoint s t
on_second-start s t h = record { on_first = h.at; on_second = start; same = (at_start t.a.x t.b.x _ _ h.in_x, at_start t.a.y t.b.y _ _ h.in_y) }

on_second-end : (s t : Segment) → OnIt s t.b → SharePoint s t
on_second-end s t h = record { on_first = h.at; on_second = end; same = (at-end t.a.x t.b.x _ _ h.in_x, at-end t.a.y t.b.y _ _ h.in_y) }

-- ---- `intersects`, taken apart

abbrev pub on_test : Segment → Position → Bool
on_test s p = is_zero (cross s.a s.b p) && on_segment s.a s.b p

abbrev pub sides_test : Segment → Segment → Bool
sides_test s t = not (eqb (signum (cross s.a s.b t.a)) (signum (cross s.a s.b t.b)))

pub intersects_is : (s t : Segment) → intersects s t ≡ (on_test s t.a || on_test s t.b || on_test t s.a || on_test t s.b || (sides_test s t && sides_test t s))
unfolding intersects
intersects_is s t = refl

pub data Found (a b c d e : Bool) : Type 0 where
  one : a ≡ true → Found a b c d e
  two : b ≡ true → Found a b c d e
  three : c ≡ true → Found a b c d e
  four : d ≡ true → Found a b c d e
  five : e ≡ true → Found a b c d e

found : (a b c d e : Bool) → (a || b || c || d || e) ≡ true → Found a b c d e
found true b c d e h = one refl
found false true c d e h = two refl
found false false true d e h = three refl
found false false false true e h = four refl
found false false false false e h = five h

pub finds : {a b c d e : Bool} → Found a b c d e → (a || b || c || d || e) ≡ true
finds {a} {b} {c} {d} {e} (one h) = λ i. h i || b || c || d || e
finds {a} {b} {c} {d} {e} (two h) = by a c d e ∙ refl
  where
    by : (a c d e : Bool) → (a || b || c || d || e) ≡ true
    by a c d e = ap (λ (z : Bool). a || z || c || d || e) h ∙ ap (λ (z : Bool). z || c || d || e) (or-true a)
finds {a} {b} {c} {d} {e} (three h) = ap (λ (z : Bool). a || b || z || d || e) h ∙ ap (λ (z : Bool). z || d || e) (or-true (a || b))
finds {a} {b} {c} {d} {e} (four h) = ap (λ (z : Bool). a || b || c || z || e) h ∙ ap (λ (z : Bool). z || e) (or-true (a || b || c))
finds {a} {b} {c} {d} {e} (five h) = ap (λ (z : Bool). a || b || c || d || z) h ∙ or-true (a || b || c || d)

abbrev pub FoundIn : Segment → Segment → Type 0
FoundIn s t = Found (on_test s t.a) (on_test s t.b) (on_test t s.a) (on_test t s.b) (sides_test s t && sides_test t s)

apart-sides : (s t : Segment) → sides_test s t ≡ true → Opposite (cross_more s.a s.b t.a) (cross_less s.a s.b t.a) (cross_more s.a s.b t.b) (cross_less s.a s.b t.b)
apart-sides s t h =
    let i = signum (cross s.a s.b t.a) in
    let j = signum (cross s.a s.b t.b) in
    opposite i j (sign_is (cross s.a s.b t.a) (is_cross s.a s.b t.a)) (sign_is (cross s.a s.b t.b) (is_cross s.a s.b t.b)) (eqb-false i j (not-true (eqb i j) h))

pub intersects-share : (s t : Segment) → intersects s t ≡ true → SharePoint s t
intersects-share s t h = go (found (on_test s t.a) (on_test s t.b) (on_test t s.a) (on_test t s.b) (sides_test s t && sides_test t s) (sym (intersects_is s t) ∙ h))
  where
    go : FoundIn s t → SharePoint s t
    go (one z) = on_second-start s t (test_on s t.a z)
    go (two z) = on_second-end s t (test_on s t.b z)
    go (three z) = on_first-start s t (test_on t s.a z)
    go (four z) = on_first-end s t (test_on t s.b z)
    go (five z) = let k = both (sides_test s t) (sides_test t s) z in share-crossing s t (apart-sides s t k.0) (apart-sides t s k.1)
