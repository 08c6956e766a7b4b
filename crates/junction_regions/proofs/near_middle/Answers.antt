-- `near_middle` meets its contract, from what `within_distance` ensures: the limit is the definition's. Assumes nothing.
use mathlib.Core.Path.{ap, ◌∙◌}
use Rattle.definitions.specs.Junctions.{within_distance}
use Rattle.geometry.specs.Forms.{point_form}
use Rattle.junction_regions.proofs.Literals.{radius_is}
use Rattle.junction_regions.specs.Tests.{near_middle}
use Rattle.junction_regions.proofs.near_middle.Goals as goal

pub returns : goal.returns
unfolding near_middle
returns c h = c.within_distance.ensures h ∙ ap (within_distance (point_form c.args.corner) (point_form c.args.middle)) radius_is
