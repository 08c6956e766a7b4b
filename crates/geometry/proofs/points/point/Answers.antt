-- `points::point` meets its contract: both coordinates are what `float` ensures. Assumes nothing.
use Rattle.definitions.specs.Geometry.{point}
use Rattle.geometry.proofs.points.point.Goals as goal

pub returns : goal.returns
unfolding point
returns c = λ i. record { px = c.float.ensures i; py = c.float-2.ensures i }
