-- A position is a point of a segment (`OnIt`) exactly where the Rust's test for it holds: it is on the segment's line and within the box of its ends
-- (`on_test`, `test_on`). The weights of such a position are its distances from the ends, along an axis in which these differ. Assumes nothing.
use Rattle.std.specs.Prelude.{◌≡◌, true, ◌&&◌}
use Rattle.std.proofs.Common.{sym, ap, ◌∙◌, le_trans, le_of_eq, lt_of_lt_of_le, mul-le-mul_left, add-le-add, add_comm, le_of_mul-le-mul_right, zero-lt-suc, arith}
use Prim.Native.Nat.{ℕ, ◌+◌, ◌-◌, ◌*◌, ◌≤◌, ◌<◌, min, max}
use Rattle.std.proofs.Math.Nat.{eq_of_mul-eq-mul_right}
use borrow.Author.Tests.{leb-true, le-leb}
use Rattle.definitions.specs.Grid.{Position, Segment}
use Rattle.definitions.specs.Spans.{cross, on_segment, is_zero}
use Rattle.laws.specs.ListLaws.Tests.{both}
use Rattle.laws.specs.OrderLaws.ListOrder.{Three, less, same, over, three}
use Rattle.separations.specs.Distance.{Weights, total, along_x, along_y}
use Rattle.separations.specs.PlaneLaws.Signs.{zero_is, is_zero_lem, cross_more, cross_less, is_cross}

-- ---- a point on a segment

pub record OnIt (s : Segment) (p : Position) : Type 0 where
  pub at : Weights
  pub in_x : along_x s at ≡ p.x * total at
  pub in_y : along_y s at ≡ p.y * total at

-- it is on the line
module _ (s : Segment) (p : Position) (h : OnIt s p) where
  on_line : cross_more s.a s.b p ≡ cross_less s.a s.b p
  on_line =
      eq_of_mul-eq-mul_right (total h.at) h.at.some (cross_more s.a s.b p) (cross_less s.a s.b p)
      (times h.at.first h.at.second s.a.x s.a.y s.b.x s.b.y p.x p.y h.in_x h.in_y)
    where
      times : (m n ax ay bx by px py : ℕ) → m * ax + n * bx ≡ px * (m + n) → m * ay + n * by ≡ py * (m + n)
          → (bx * py + ax * ay + (by * ax + ay * px)) * (m + n) ≡ (bx * ay + ax * py + (by * px + ay * ax)) * (m + n)
      times m n ax ay bx by px py hx hy =
          let e1 : bx * (m * ay + n * by) ≡ bx * (py * (m + n)) = ap (λ (z : ℕ). bx * z) hy in
          let e2 : ay * (m * ax + n * bx) ≡ ay * (px * (m + n)) = ap (λ (z : ℕ). ay * z) hx in
          let e3 : ax * (m * ay + n * by) ≡ ax * (py * (m + n)) = ap (λ (z : ℕ). ax * z) hy in
          let e4 : by * (m * ax + n * bx) ≡ by * (px * (m + n)) = ap (λ (z : ℕ). by * z) hx in
          omega arith

  in_box : on_segment s.a s.b p ≡ true
  unfolding on_segment
  in_box =
      λ i.
      le-leb (min s.a.x s.b.x) p.x (low s.a.x s.b.x p.x h.in_x) i && le-leb p.x (max s.a.x s.b.x) (high s.a.x s.b.x p.x h.in_x) i && le-leb (min s.a.y s.b.y) p.y (low s.a.y s.b.y p.y h.in_y) i
      && le-leb p.y (max s.a.y s.b.y) (high s.a.y s.b.y p.y h.in_y) i
    where
      m : ℕ
      m = h.at.first

      n : ℕ
      n = h.at.second

      low : (a b q : ℕ) → m * a + n * b ≡ q * (m + n) → min a b ≤ q
      low a b q e = le_of_mul-le-mul_right (le_trans (le_of_eq (out (min a b))) (le_trans (add-le-add (mul-le-mul_left m (first a b)) (mul-le-mul_left n (second a b))) (le_of_eq e))) h.at.some
        where
          out : (x : ℕ) → x * (m + n) ≡ m * x + n * x
          out x = omega arith

          first : (a b : ℕ) → min a b ≤ a
          first a b = omega arith

          second : (a b : ℕ) → min a b ≤ b
          second a b = omega arith

      high : (a b q : ℕ) → m * a + n * b ≡ q * (m + n) → q ≤ max a b
      high a b q e = le_of_mul-le-mul_right (le_trans (le_of_eq (sym e)) (le_trans (add-le-add (mul-le-mul_left m (first a b)) (mul-le-mul_left n (second a b))) (le_of_eq (sym (out (max a b)))))) h.at.some
        where
          out : (x : ℕ) → x * (m + n) ≡ m * x + n * x
          out x = omega arith

          first : (a b : ℕ) → a ≤ max a b
          first a b = omega arith

          second : (a b : ℕ) → b ≤ max a b
          second a b = omega arith

  pub on_test : (is_zero (cross s.a s.b p) && on_segment s.a s.b p) ≡ true
  on_test = λ i. is_zero_lem (cross s.a s.b p) (is_cross s.a s.b p) on_line i && in_box i

-- ---- and back

record Mean (ax ay bx by px py : ℕ) : Type 0 where
  m : ℕ
  n : ℕ
  some : 0 < m + n
  in_x : m * ax + n * bx ≡ px * (m + n)
  in_y : m * ay + n * by ≡ py * (m + n)

mean_turned : {ax ay bx by px py : ℕ} → Mean bx by ax ay px py → Mean ax ay bx by px py
mean_turned {ax} {ay} {bx} {by} {px} {py} h =
    record {
      m = h.n;
      n = h.m;
      some = lt_of_lt_of_le h.some (le_of_eq (add_comm h.m h.n));
      in_x = add_comm (h.n * ax) (h.m * bx) ∙ h.in_x ∙ ap (λ (z : ℕ). px * z) (add_comm h.m h.n);
      in_y = add_comm (h.n * ay) (h.m * by) ∙ h.in_y ∙ ap (λ (z : ℕ). py * z) (add_comm h.m h.n);
    }

mean_across : {ax ay bx by px py : ℕ} → Mean ay ax by bx py px → Mean ax ay bx by px py
mean_across h = record { m = h.m; n = h.n; some = h.some; in_x = h.in_y; in_y = h.in_x }

-- with the ends apart in x, the first before the second
mean_between : (ax ay bx by px py : ℕ) → bx * py + ax * ay + (by * ax + ay * px) ≡ bx * ay + ax * py + (by * px + ay * ax) → ax < bx → ax ≤ px → px ≤ bx → Mean ax ay bx by px py
mean_between ax ay bx by px py e l g h =
    let m = bx - px in
    let n = px - ax in
    let p : px ≡ ax + n = omega arith in
    let b : bx ≡ ax + n + m = omega arith in
    record { m = m; n = n; some = omega arith; in_x = in_x_lem m n p b; in_y = in_y_lem m n p b }
  where
    in_x_lem : (m n : ℕ) → px ≡ ax + n → bx ≡ ax + n + m → m * ax + n * bx ≡ px * (m + n)
    in_x_lem m n p b = omega (arith, ap (λ (z : ℕ). n * z) b, ap (λ (z : ℕ). z * (m + n)) p)

    in_y_lem : (m n : ℕ) → px ≡ ax + n → bx ≡ ax + n + m → m * ay + n * by ≡ py * (m + n)
    in_y_lem m n p b = omega (arith, ap (λ (z : ℕ). z * py) b, ap (λ (z : ℕ). z * ay) b, ap (λ (z : ℕ). by * z) p, ap (λ (z : ℕ). ay * z) p)

mean_of_lem : (ax ay bx by px py : ℕ) → bx * py + ax * ay + (by * ax + ay * px) ≡ bx * ay + ax * py + (by * px + ay * ax) → min ax bx ≤ px → px ≤ max ax bx → min ay by ≤ py → py ≤ max ay by → Mean ax ay bx by px py
mean_of_lem ax ay bx by px py e lx hx ly hy = go (three ax bx)
  where
    up : Three ay by → ax ≡ bx → Mean ax ay bx by px py
    up (less k) z = mean_across (mean_between ay ax by bx py px (omega arith) k (omega arith) (omega arith))
    up (over k) z = mean_across (mean_turned (mean_between by bx ay ax py px (omega arith) k (omega arith) (omega arith)))
    up (same k) z = record { m = 1; n = 0; some = zero-lt-suc 0; in_x = omega arith; in_y = omega arith }

    go : Three ax bx → Mean ax ay bx by px py
    go (less k) = mean_between ax ay bx by px py e k (omega arith) (omega arith)
    go (over k) = mean_turned (mean_between bx by ax ay px py (omega arith) k (omega arith) (omega arith))
    go (same k) = up (three ay by) k

pub test_on : (s : Segment) (p : Position) → (is_zero (cross s.a s.b p) && on_segment s.a s.b p) ≡ true → OnIt s p
unfolding on_segment
test_on s p h =
    let z = both _ _ h in
    let x3 = both _ _ z.1 in
    let x2 = both _ _ x3.0 in
    let x1 = both _ _ x2.0 in
    let w : Mean s.a.x s.a.y s.b.x s.b.y p.x p.y =
    mean_of_lem s.a.x s.a.y s.b.x s.b.y p.x p.y (zero_is (cross s.a s.b p) (is_cross s.a s.b p) z.0)
    (leb-true (min s.a.x s.b.x) p.x x1.0) (leb-true p.x (max s.a.x s.b.x) x1.1)
    (leb-true (min s.a.y s.b.y) p.y x2.1) (leb-true p.y (max s.a.y s.b.y) x3.1) in
    record { at = record { first = w.m; second = w.n; some = w.some }; in_x = w.in_x; in_y = w.in_y }
