-- `ramp_geometry::offset` meets its contract: positions within the limits are in range. Assumes nothing.
use Rattle.laws.specs.FloatLaws.PassRange.{positions_in_range}
use Rattle.geometry.proofs.AtPoints.{distance_at}
use Rattle.geometry.proofs.Ends.{pixel}
use Rattle.geometry.proofs.ramp_geometry.offset.Goals as goal

pub returns : goal.returns
returns c =
    distance_at c.point.ensures c.point-2.ensures (positions_in_range (pixel c.requires.0) (pixel c.requires.1)) c.distance.ensures
