-- `ramp_geometry::endpoint_distance` meets its contract: positions within the limits are in range. Assumes nothing.
use Rattle.laws.specs.FloatLaws.Pixels.{point-pixel}
use Rattle.laws.specs.FloatLaws.DistanceRange.{point-segment-in_range}
use Rattle.geometry.proofs.AtPoints.{segment_distance_at}
use Rattle.geometry.proofs.Ends.{pixel}
use Rattle.geometry.proofs.ramp_geometry.endpoint_distance.Goals as goal

pub returns : goal.returns
returns c =
    segment_distance_at c.point.ensures c.point-2.ensures c.point-3.ensures
    (point-segment-in_range _ _ _ (point-pixel (pixel c.requires.0)) (point-pixel (pixel c.requires.1)) (point-pixel (pixel c.requires.2)))
    c.point_segment_distance.ensures
