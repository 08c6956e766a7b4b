-- `points::distance` meets its contract: in range the value of the hypotenuse is the distance. Assumes nothing.
use mathlib.Core.Path.{◌∙◌}
use Rattle.laws.specs.FloatLaws.DistanceRange.{distance-value}
use Rattle.geometry.specs.Forms.{point_form}
use Rattle.geometry.proofs.points.distance.Goals as goal

pub returns : goal.returns
returns c =
    λ h. c.hypot.ensures ∙ distance-value (point_form c.args.p) (point_form c.args.q) h
