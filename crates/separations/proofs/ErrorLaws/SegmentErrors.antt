-- How far a separation is off: the least of four doubles is off from the least of four roots by no more than each of them is, 2 ^ -34 pixel, so that it is
-- within 2 ^ -32 (`separation-within`). Two segments that share no point are at least 2 ^ -27 apart, far more than the error, so that a separation is zero just
-- for those that share one (`separation-zero`). Assumes coordinates up to 8,192.
use Rattle.std.specs.Prelude.{◌≡◌, refl, ◌⊎◌, ◌↔◌, Bool, true, false, cond, ℕ, zero, suc, ◌+◌, ◌-◌, ◌*◌, ◌^◌, ◌≤◌, ◌<◌, ltb, eqb, Float}
use Rattle.std.proofs.Common.{sym, ap, ◌∙◌, subst, inl, inr, zero-le, le_trans, le_of_eq, le_of_lt, le_refl, not-le_of_lt, mul-le-mul, mul-le-mul_left, mul-le-mul_right, mul_right_comm, zero-mul, zero-add, zero-lt-suc, le_of_mul-le-mul_right, arith, lit≤, lit<, pow_pos, ltb-true, ltb-false}
use Rattle.std.proofs.lemmas.Bool.{false≢true}
use Rattle.std.specs.Float.Ieee.{lt}
use Rattle.std.specs.Float.Ieee.Exact.{HasValue}
use Rattle.definitions.specs.Grid.{Position, Segment}
use Rattle.definitions.specs.Hypotenuse.{magnitude}
use Rattle.definitions.specs.Geometry.{float, point, point_segment_distance}
use Rattle.definitions.specs.RampGeometry.{fmin, intersects, segment_distance}
use Rattle.laws.specs.NumberLaws.Comparisons.{le_or_lt}
use Rattle.laws.specs.NumberLaws.Squares.{square_le}
use Rattle.laws.specs.FloatLaws.Values.{lt_value}
use Rattle.laws.specs.FloatLaws.Patterns.{magnitude_of, clear_of}
use Rattle.laws.specs.FloatLaws.WholeDoubles.{float_value}
use Rattle.laws.specs.FloatLaws.Pixels.{PixelSegment}
use Rattle.separations.specs.Distance.{SharePoint, ExactSquare, Fraction, lesser, length_square, allowed, Within}
use Rattle.separations.specs.PlaneLaws.Feet.{foot_square, scale, foot-positive}
use Rattle.separations.specs.PlaneLaws.Sharing.{squares-zero, dist_zero, share-intersects}
use Rattle.separations.specs.PlaneLaws.Crossing.{intersects-share}
use Rattle.separations.specs.PlaneLaws.LeastDistance.{Le, le-over, lesser_by, lesser-le, Points, least_of_four, least_points, first_two-positive, first_three-positive, meet-exact, apart-exact, exact_unique}
use Rattle.separations.proofs.PlaneLaws.Sizes.{length-le}
use Rattle.separations.specs.ErrorLaws.PointErrors.{separation_error, Measured, measured-point}

-- ---- the least of four

measured-min : {x y : Float} {f g : Fraction} → 0 < f.den → 0 < g.den → Measured x f → Measured y g → Measured (fmin x y) (lesser f g)
unfolding fmin
measured-min {x} {y} {f} {g} F G a b =
    go (lt y x)
    (lt_value {c = 2 ^ 1074} {x = y} {y = x} (record { sign = false; number = b.number; value = b.value }) (record { sign = false; number = a.number; value = a.value }) (pow_pos 1074))
  where
    Below : ℕ → Fraction → Type 0
    Below n f = (r : ℕ) → f.num * (2 ^ 1074 * 2 ^ 1074) ≤ r * r * f.den → n ≤ r + separation_error

    by : (z : Float) (n : ℕ) → HasValue z false n (2 ^ 1074) → (h : Fraction) → 0 < h.den → Le (lesser f g) h
        → h.num * (2 ^ 1074 * 2 ^ 1074) ≤ (n + separation_error) * (n + separation_error) * h.den → n ≤ a.number → n ≤ b.number → Measured z (lesser f g)
    by z n v h p l k na nb =
        record {
          number = n;
          value = v;
          above = le-over (lesser f g).num (lesser f g).den h.num h.den ((n + separation_error) * (n + separation_error)) (2 ^ 1074 * 2 ^ 1074) p l k;
          below = lesser_by (Below n) f g (λ r e. le_trans na (a.below r e)) (λ r e. le_trans nb (b.below r e));
        }

    go : (t : Bool) → t ≡ ltb b.number a.number → Measured (cond t y x) (lesser f g)
    go true e = by y b.number b.value g G (lesser-le f g).1 b.above (le_of_lt (ltb-true b.number a.number (sym e))) (le_refl b.number)
    go false e = by x a.number a.value f F (lesser-le f g).0 a.above (le_refl a.number) (ltb-false b.number a.number (sym e))

measured-apart : {s t : Segment} → PixelSegment s → PixelSegment t → intersects s t ≡ false → Measured (segment_distance s t) (least_of_four s t)
unfolding segment_distance
measured-apart {s} {t} hs ht n =
    subst (λ (b : Bool). Measured (cond b (float 0) (fmin (fmin (fmin d1 d2) d3) d4)) (least_of_four s t)) (sym n)
    (measured-min (first_three-positive s t) (foot-positive t.b s)
    (measured-min (first_two-positive s t) (foot-positive t.a s)
    (measured-min (foot-positive s.a t) (foot-positive s.b t) (measured-point s.a t hs.first ht) (measured-point s.b t hs.second ht))
    (measured-point t.a s ht.first hs)) (measured-point t.b s ht.second hs))
  where
    d1 : Float
    d1 = point_segment_distance (point s.a) (point t.a) (point t.b)

    d2 : Float
    d2 = point_segment_distance (point s.b) (point t.a) (point t.b)

    d3 : Float
    d3 = point_segment_distance (point t.a) (point s.a) (point s.b)

    d4 : Float
    d4 = point_segment_distance (point t.b) (point s.a) (point s.b)

pub meets-zero : (s t : Segment) → intersects s t ≡ true → segment_distance s t ≡ float 0
unfolding segment_distance
meets-zero s t h = pick (intersects s t) (float 0) _ h
  where
    pick : (b : Bool) (x y : Float) → b ≡ true → cond b x y ≡ x
    pick true x y h = refl
    pick false x y h = absurd (false≢true h)

-- ---- within 2 ^ -32

-- of numbers: n is off by at most E, which is less than d
within-numbers : (n E d num den v : ℕ) → E < d → num * v ≤ (n + E) * (n + E) * den → ((r : ℕ) → num * v ≤ r * r * den → n ≤ r + E)
    → (num * v ≤ (n + d) * (n + d) * den) × ((n - d) * (n - d) * den ≤ num * v)
within-numbers n E d num den v l h k = (le_trans h (mul-le-mul_right den (square_le (n + E) (n + d) (omega arith))), go (le_or_lt n d) (le_or_lt ((n - d) * (n - d) * den) (num * v)))
  where
    go : (n ≤ d) ⊎ (d < n) → ((n - d) * (n - d) * den ≤ num * v) ⊎ (num * v < (n - d) * (n - d) * den) → (n - d) * (n - d) * den ≤ num * v
    go z (inl y) = y
    go (inl z) (inr y) = let e : n - d ≡ 0 = omega arith in le_trans (le_of_eq (ap (λ (w : ℕ). w * w * den) e ∙ zero-mul den)) zero-le
    go (inr z) (inr y) = let w = k (n - d) (le_of_lt y) in absurd (not-le_of_lt l (by w))
      where
        by : n ≤ n - d + E → d ≤ E
        by w = omega arith

measured-within : {x : Float} {f : Fraction} → Measured x f → Within x f.num f.den
measured-within {x} {f} m =
    let e : m.number ≡ magnitude x = sym (magnitude_of x false m.number m.value) in
    let w = within-numbers m.number separation_error (allowed) f.num f.den (2 ^ 1074 * 2 ^ 1074) (lit< tt) m.above m.below in
    record {
      unsigned = clear_of x m.number (2 ^ 1074) m.value;
      above = subst (λ (n : ℕ). f.num * (2 ^ 1074 * 2 ^ 1074) ≤ (n + allowed) * (n + allowed) * f.den) e w.0;
      below = subst (λ (n : ℕ). (n - allowed) * (n - allowed) * f.den ≤ f.num * (2 ^ 1074 * 2 ^ 1074)) e w.1;
    }

-- 0.0, against 0
pub zero-magnitude : magnitude (float 0) ≡ 0
unfolding magnitude float
zero-magnitude = refl

zero-within : Within (float 0) 0 1
zero-within =
    record {
      unsigned = clear_of (float 0) 0 1 (float_value 0 (lit≤ tt));
      above = le_trans (le_of_eq (zero-mul (2 ^ 1074 * 2 ^ 1074))) zero-le;
      below = le_of_eq (ap (λ (n : ℕ). (n - allowed) * (n - allowed) * 1) zero-magnitude);
    }

-- the same fraction, written otherwise
within-again : {x : Float} (p q m n : ℕ) → 0 < q → p * n ≡ m * q → Within x p q → Within x m n
within-again {x} p q m n Q e w =
    record {
      unsigned = w.unsigned;
      above = le-over m n p q ((magnitude x + allowed) * (magnitude x + allowed)) (2 ^ 1074 * 2 ^ 1074) Q (le_of_eq (sym e)) w.above;
      below = back ((magnitude x - allowed) * (magnitude x - allowed)) (2 ^ 1074 * 2 ^ 1074) w.below;
    }
  where
    back : (y v : ℕ) → y * q ≤ p * v → y * n ≤ m * v
    back y v h =
        le_of_mul-le-mul_right
        (le_trans (le_of_eq (mul_right_comm y n q)) (le_trans (mul-le-mul_right n h) (le_of_eq (mul_right_comm p v n ∙ ap (λ (z : ℕ). z * v) e ∙ mul_right_comm m q v)))) Q

pub separation-within : {s t : Segment} {num den : ℕ} → PixelSegment s → PixelSegment t → ExactSquare s t num den → Within (segment_distance s t) num den
separation-within {s} {t} {num} {den} hs ht h = go (intersects s t) refl
  where
    go : (b : Bool) → intersects s t ≡ b → Within (segment_distance s t) num den
    go true e = within-again 0 1 num den (zero-lt-suc 0) (exact_unique (meet-exact s t (intersects-share s t e)) h) (subst (λ (x : Float). Within x 0 1) (sym (meets-zero s t e)) zero-within)
    go false e =
        let x = apart-exact s t (λ k. false≢true (sym e ∙ share-intersects s t k)) in
        within-again (least_of_four s t).num (least_of_four s t).den num den x.positive (exact_unique x h) (measured-within (measured-apart hs ht e))

-- ---- zero

points_share : {s t : Segment} {f : Fraction} → Points s t f → f.num ≡ 0 → SharePoint s t
points_share {s} {t} {f} h z =
    let w = squares-zero _ _ (h.num_is ∙ z) in
    record { on_first = h.on_first; on_second = h.on_second; same = (dist_zero _ _ w.0, dist_zero _ _ w.1) }

abbrev Fine : Fraction → Type 0
Fine f = f.den ≤ 2 ^ 54

fine-point : (p : Position) {t : Segment} → PixelSegment t → Fine (foot_square p t)
unfolding foot_square
fine-point p {t} h = le_trans (mul-le-mul small small) (lit≤ tt)
  where
    pick : (b : Bool) → cond b 1 (length_square t) ≤ 2 ^ 27
    pick true = lit≤ tt
    pick false = length-le h

    small : scale t ≤ 2 ^ 27
    small = pick (eqb (length_square t) 0)

-- a fraction of such a denominator that 0.0 is near is 0
near-zero : (num den E v : ℕ) → den ≤ 2 ^ 54 → E * E * 2 ^ 54 < v → num * v ≤ (0 + E) * (0 + E) * den → num ≡ 0
near-zero zero den E v d l h = refl
near-zero (suc num) den E v d l h =
    absurd (not-le_of_lt l (le_trans (by num v) (le_trans h (le_trans (le_of_eq (λ i. zero-add E i * zero-add E i * den)) (mul-le-mul_left (E * E) d)))))
  where
    by : (n v : ℕ) → v ≤ suc n * v
    by n v = omega arith

pub separation-zero : {s t : Segment} → PixelSegment s → PixelSegment t → (magnitude (segment_distance s t) ≡ 0) ↔ SharePoint s t
separation-zero {s} {t} hs ht = (λ z. go (intersects s t) refl z, λ h. ap magnitude (meets-zero s t (share-intersects s t h)) ∙ zero-magnitude)
  where
    fine : Fine (least_of_four s t)
    fine =
        lesser_by Fine _ _
        (lesser_by Fine _ _ (lesser_by Fine _ _ (fine-point s.a ht) (fine-point s.b ht)) (fine-point t.a hs)) (fine-point t.b hs)

    go : (b : Bool) → intersects s t ≡ b → magnitude (segment_distance s t) ≡ 0 → SharePoint s t
    go true e z = intersects-share s t e
    go false e z =
        let m = measured-apart hs ht e in
        let n : m.number ≡ 0 = sym (magnitude_of (segment_distance s t) false m.number m.value) ∙ z in
        points_share (least_points s t)
        (near-zero (least_of_four s t).num (least_of_four s t).den separation_error (2 ^ 1074 * 2 ^ 1074) fine (lit< tt)
        (subst (λ (n : ℕ). (least_of_four s t).num * (2 ^ 1074 * 2 ^ 1074) ≤ (n + separation_error) * (n + separation_error) * (least_of_four s t).den) n m.above))
