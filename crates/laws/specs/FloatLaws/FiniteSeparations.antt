-- Separations of boundaries on a map are finite doubles with the sign clear: each is 0.0 or the least of four distances (`separation_by`), and these are within the range of the
-- hypotenuse. Assumes coordinates of at most 8,192 pixels, as Pixels.antt has it.
use Rattle.std.proofs.Common.{sym, subst, lit≤}
use Rattle.std.specs.Prelude.{Bool, true, false, cond, T, Float}
use Rattle.std.specs.Float.{binary64}
use Rattle.std.specs.Float.Ieee.{lt, fits}
use Rattle.std.specs.Float.Ieee.Fits.{round-fits}
use Rattle.definitions.specs.Grid.{Segment}
use Rattle.definitions.specs.Geometry.{Point, float, point, point_segment_distance}
use Rattle.definitions.specs.RampGeometry.{fmin, intersects, segment_distance}
use Rattle.laws.specs.FloatLaws.Patterns.{SignClear, clear_of}
use Rattle.laws.specs.FloatLaws.WholeDoubles.{float_value, float_round}
use Rattle.laws.specs.FloatLaws.Pixels.{PixelSegment}
use Rattle.laws.specs.FloatLaws.DistanceRange.{distance-clear, distance-fits, nearest_point, point-segment_is}
use Rattle.laws.specs.FloatLaws.PassRange.{SegmentInRange, separation-in_range}

-- what holds of 0.0 and of four distances holds of the separation that is made of them
pub separation_by : (P : Float → Type 0) (s t : Segment) → P (float 0) → P (point_segment_distance (point s.a) (point t.a) (point t.b)) → P (point_segment_distance (point s.b) (point t.a) (point t.b))
    → P (point_segment_distance (point t.a) (point s.a) (point s.b)) → P (point_segment_distance (point t.b) (point s.a) (point s.b)) → P (segment_distance s t)
unfolding segment_distance
separation_by P s t zero first second third fourth = pick (intersects s t) zero (less (less (less first second) third) fourth)
  where
    pick : (b : Bool) {x y : Float} → P x → P y → P (cond b x y)
    pick true h k = h
    pick false h k = k

    less : {x y : Float} → P x → P y → P (fmin x y)
    less {x} {y} h k = unfold fmin in (pick (lt y x) k h)

-- a finite double with the sign clear
pub record Clear (x : Float) : Type 0 where
  pub sign : SignClear x
  pub held : T (fits binary64 x)

zero_clear : Clear (float 0)
zero_clear =
    record {
      sign = clear_of (float 0) 0 1 (float_value 0 (lit≤ tt));
      held = subst (λ (x : Float). T (fits binary64 x)) (sym (float_round 0)) (round-fits binary64 false 0 1);
    }

segment-clear : (p : Point) (t : Segment) → SegmentInRange p t → Clear (point_segment_distance p (point t.a) (point t.b))
segment-clear p t h =
    let q = nearest_point p (point t.a) (point t.b) in
    subst Clear (sym (point-segment_is p (point t.a) (point t.b))) (record { sign = distance-clear p q h; held = distance-fits p q })

pub separation-clear : {s t : Segment} → PixelSegment s → PixelSegment t → Clear (segment_distance s t)
separation-clear {s} {t} hs ht =
    let r = separation-in_range hs ht in
    separation_by Clear s t zero_clear (segment-clear (point s.a) t r.first) (segment-clear (point s.b) t r.second) (segment-clear (point t.a) s r.third) (segment-clear (point t.b) s r.fourth)
