-- A separation does not depend on which of the two boundaries comes first (`separation-turned`): it is 0.0 for both orders, or the least of the same four
-- doubles, and the least of doubles whose signs are clear has the least of their bits, in whatever order they are compared. Assumes coordinates up to 8,192.
use Rattle.std.specs.Prelude.{◌≡◌, refl, Bool, true, false, cond, ℕ, min, ◌≤◌, ◌<◌, T, ltb, Float}
use Rattle.std.proofs.Common.{sym, ap, ◌∙◌, subst, arith, ltb-true, ltb-false}
use Rattle.std.proofs.lemmas.Bool.{false≢true}
use Rattle.std.specs.Float.{binary64}
use Rattle.std.specs.Float.Ieee.{fits, of_bits, to_bits, lt}
use Rattle.std.specs.Float.Ieee.Bits.{of_bits-to_bits}
use Rattle.definitions.specs.Grid.{Position, Segment}
use Rattle.definitions.specs.Geometry.{float, point, point_segment_distance}
use Rattle.definitions.specs.RampGeometry.{fmin, intersects, segment_distance}
use Rattle.laws.specs.FloatLaws.Patterns.{clear_of}
use Rattle.laws.specs.FloatLaws.KeysAsBits.{lt_to_bits}
use Rattle.laws.specs.FloatLaws.Pixels.{PixelPosition, PixelSegment}
use Rattle.laws.specs.FloatLaws.DistanceRange.{distance-fits, nearest_point, point-segment_is}
use Rattle.laws.specs.FloatLaws.FiniteSeparations.{Clear, separation-clear}
use Rattle.separations.specs.PlaneLaws.Crossing.{intersects-share}
use Rattle.separations.specs.PlaneLaws.Sharing.{share-turn, share-intersects}
use Rattle.separations.specs.ErrorLaws.PointErrors.{measured-point}
use Rattle.separations.proofs.ErrorLaws.SegmentErrors.{meets-zero}

-- ---- the least of two, by their bits

abbrev bits : Float → ℕ
bits x = to_bits binary64 x

min-clear : {x y : Float} → Clear x → Clear y → Clear (fmin x y)
unfolding fmin
min-clear {x} {y} h k = go (lt y x)
  where
    go : (b : Bool) → Clear (cond b y x)
    go true = k
    go false = h

min-bits : {x y : Float} → Clear x → Clear y → bits (fmin x y) ≡ min (bits x) (bits y)
unfolding fmin
min-bits {x} {y} h k = go (lt y x) (lt_to_bits y x k.sign h.sign k.held h.held)
  where
    second : (m n : ℕ) → n < m → n ≡ min m n
    second m n l = omega arith

    first : (m n : ℕ) → m ≤ n → m ≡ min m n
    first m n l = omega arith

    go : (b : Bool) → b ≡ ltb (bits y) (bits x) → bits (cond b y x) ≡ min (bits x) (bits y)
    go true e = second (bits x) (bits y) (ltb-true (bits y) (bits x) (sym e))
    go false e = first (bits x) (bits y) (ltb-false (bits y) (bits x) (sym e))

-- ---- the four distances

module _ (p : Position) (t : Segment) where
  abbrev from_point : Float
  from_point = point_segment_distance (point p) (point t.a) (point t.b)

  point-clear : PixelPosition p → PixelSegment t → Clear from_point
  point-clear hp ht =
      let m = measured-point p t hp ht in
      record {
        sign = clear_of from_point m.number _ m.value;
        held =
            subst (λ (x : Float). T (fits binary64 x)) (sym (point-segment_is (point p) (point t.a) (point t.b)))
            (distance-fits (point p) (nearest_point (point p) (point t.a) (point t.b)));
      }

apart-bits : {s t : Segment} → PixelSegment s → PixelSegment t → intersects s t ≡ false
    → bits (segment_distance s t) ≡ min (min (min (bits (from_point s.a t)) (bits (from_point s.b t))) (bits (from_point t.a s))) (bits (from_point t.b s))
unfolding segment_distance
apart-bits {s} {t} hs ht n =
    let one = point-clear s.a t hs.first ht in
    let two = point-clear s.b t hs.second ht in
    let three = point-clear t.a s ht.first hs in
    let four = point-clear t.b s ht.second hs in
    ap (λ (b : Bool). bits (cond b (float 0) (fmin (fmin (fmin (from_point s.a t) (from_point s.b t)) (from_point t.a s)) (from_point t.b s)))) n
    ∙ min-bits (min-clear (min-clear one two) three) four
    ∙ ap (λ (m : ℕ). min m (bits (from_point t.b s))) (min-bits (min-clear one two) three)
    ∙ ap (λ (m : ℕ). min (min m (bits (from_point t.a s))) (bits (from_point t.b s))) (min-bits one two)

-- ---- both orders

turned_apart : (s t : Segment) → intersects s t ≡ false → intersects t s ≡ false
turned_apart s t e = go (intersects t s) refl
  where
    go : (b : Bool) → intersects t s ≡ b → b ≡ false
    go true f = absurd (false≢true (sym e ∙ share-intersects s t (share-turn (intersects-share t s f))))
    go false f = refl

same_bits : {x y : Float} → T (fits binary64 x) → T (fits binary64 y) → bits x ≡ bits y → x ≡ y
same_bits {x} {y} h k e = sym (of_bits-to_bits binary64 x h) ∙ ap (of_bits binary64) e ∙ of_bits-to_bits binary64 y k

pub separation-turned : {s t : Segment} → PixelSegment s → PixelSegment t → segment_distance s t ≡ segment_distance t s
separation-turned {s} {t} hs ht = go (intersects s t) refl
  where
    swap : (a b c d : ℕ) → min (min (min a b) c) d ≡ min (min (min c d) a) b
    swap a b c d = omega arith

    go : (b : Bool) → intersects s t ≡ b → segment_distance s t ≡ segment_distance t s
    go true e = meets-zero s t e ∙ sym (meets-zero t s (share-intersects t s (share-turn (intersects-share s t e))))
    go false e =
        same_bits (separation-clear hs ht).held (separation-clear ht hs).held
        (apart-bits hs ht e ∙ swap (bits (from_point s.a t)) (bits (from_point s.b t)) (bits (from_point t.a s)) (bits (from_point t.b s))
        ∙ sym (apart-bits ht hs (turned_apart s t e)))
