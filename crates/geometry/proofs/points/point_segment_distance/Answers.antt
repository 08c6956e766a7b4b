-- `points::point_segment_distance` meets its contract: it is the distance to the nearest point. Assumes nothing.
use mathlib.Core.Path.{◌≡◌, sym, ap, ◌∙◌, subst⁻¹}
use lib.Ieee.{Float}
use Rattle.definitions.specs.Geometry.{Point, distance, point_segment_distance}
use Rattle.laws.specs.FloatLaws.DistanceRange.{DistanceInRange, nearest_point, point-segment_is}
use Rattle.geometry.specs.Forms.{point_form}
use Rattle.geometry.proofs.points.point_segment_distance.Goals as goal

-- q is the nearest point, d what `distance` answers
from_nearest : (p a b q : Point) {d : Float} → q ≡ nearest_point p a b → (DistanceInRange p q → d ≡ distance p q) → DistanceInRange p (nearest_point p a b) → d ≡ point_segment_distance p a b
from_nearest p a b q e f h = f (subst⁻¹ (DistanceInRange p) e h) ∙ ap (distance p) e ∙ sym (point-segment_is p a b)

pub returns : goal.returns
returns c =
    let s = c.args in
    from_nearest (point_form s.p) (point_form s.a) (point_form s.b) (point_form c.nearest_point.result) c.nearest_point.ensures c.distance.ensures
