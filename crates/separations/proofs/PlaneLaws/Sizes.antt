-- The exact square of two boundaries of a map fits 64 bits (`small-square`): numerators are squares of cross products or of distances of whole pixels,
-- denominators squares of lengths. Assumes coordinates up to 8,192.
use Rattle.std.specs.Prelude.{ℕ, ◌*◌, ◌^◌, ◌≤◌, Bool, true, false, cond, eqb, leb, nat_abs, ◌*ℤ◌}
use Rattle.std.proofs.Common.{zero-le, le_trans, add-le-add, mul-le-mul, arith, lit≤}
use Rattle.definitions.specs.Grid.{Position, Segment}
use Rattle.definitions.specs.Spans.{diff, distance_between, cross}
use Rattle.definitions.specs.RampGeometry.{intersects}
use Rattle.laws.specs.NumberLaws.WholeNumbers.{nat_abs_difference, nat_abs_diff-product}
use Rattle.laws.specs.FloatLaws.Pixels.{PixelPosition, PixelSegment}
use Rattle.separations.specs.Distance.{squares, Fraction, length_square, end_square, along, point_square, exact_square}
use Rattle.separations.specs.PlaneLaws.LeastDistance.{lesser_by}
use Rattle.separations.proofs.PlaneLaws.Perpendicular.{least_square}

pub record Small (f : Fraction) : Type 0 where
  pub num-le : f.num ≤ 2 ^ 54
  pub den-le : f.den ≤ 2 ^ 27

squares-le : (x y : ℕ) → x ≤ 2 ^ 13 → y ≤ 2 ^ 13 → squares x y ≤ 2 ^ 27
squares-le x y h k = le_trans (add-le-add (mul-le-mul h h) (mul-le-mul k k)) (lit≤ tt)

dist_le : (a b m : ℕ) → a ≤ m → b ≤ m → distance_between a b ≤ m
dist_le a b m h k = omega arith

pub length-le : {t : Segment} → PixelSegment t → length_square t ≤ 2 ^ 27
length-le {t} h =
    squares-le _ _ (dist_le t.b.x t.a.x (2 ^ 13) h.second.x-le h.first.x-le) (dist_le t.b.y t.a.y (2 ^ 13) h.second.y-le h.first.y-le)

pub cross-le : {a b p : Position} → PixelPosition a → PixelPosition b → PixelPosition p → nat_abs (cross a b p) ≤ 2 ^ 27
unfolding cross
cross-le {a} {b} {p} ha hb hp =
    le_trans (nat_abs_difference (diff b.x a.x *ℤ diff p.y a.y) (diff b.y a.y *ℤ diff p.x a.x))
    (le_trans (add-le-add (nat_abs_diff-product hb.x-le ha.x-le hp.y-le ha.y-le) (nat_abs_diff-product hb.y-le ha.y-le hp.x-le ha.x-le)) (lit≤ tt))

small-point : {p : Position} {t : Segment} → PixelPosition p → PixelSegment t → Small (point_square p t)
unfolding point_square
small-point {p} {t} hp ht = go (eqb (along p t) 0) (leb (length_square t) (along p t))
  where
    end : {q : Position} → PixelPosition q → Small (record { num = end_square p q; den = 1 })
    end {q} hq =
        record {
          num-le = le_trans (squares-le _ _ (dist_le p.x q.x (2 ^ 13) hp.x-le hq.x-le) (dist_le p.y q.y (2 ^ 13) hp.y-le hq.y-le)) (lit≤ tt);
          den-le = lit≤ tt;
        }

    height : nat_abs (cross t.a t.b p) ≤ 2 ^ 27
    height = cross-le ht.first ht.second hp

    go : (x y : Bool)
        → Small (cond x (record { num = end_square p t.a; den = 1 }) (cond y (record { num = end_square p t.b; den = 1 }) (record { num = nat_abs (cross t.a t.b p) * nat_abs (cross t.a t.b p); den = length_square t })))
    go true y = end ht.first
    go false true = end ht.second
    go false false =
        record {
          num-le = le_trans (mul-le-mul height height) (lit≤ tt);
          den-le = length-le ht;
        }

pub small-square : {s t : Segment} → PixelSegment s → PixelSegment t → Small (exact_square s t)
unfolding exact_square
small-square {s} {t} hs ht = go (intersects s t)
  where
    least : Small (least_square s t)
    least =
        lesser_by Small _ _ (lesser_by Small _ _ (lesser_by Small _ _ (small-point hs.first ht) (small-point hs.second ht)) (small-point ht.first hs)) (small-point ht.second hs)

    go : (b : Bool) → Small (cond b (record { num = 0; den = 1 }) (least_square s t))
    go true = record { num-le = zero-le; den-le = lit≤ tt }
    go false = least
