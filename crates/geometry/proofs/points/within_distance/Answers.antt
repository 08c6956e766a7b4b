-- `points::within_distance` meets its contract, from what `distance` ensures. Assumes nothing.
use mathlib.Core.Path.{ap}
use lib.Ieee.{le}
use Rattle.definitions.specs.Junctions.{within_distance}
use Rattle.geometry.proofs.points.within_distance.Goals as goal

pub returns : goal.returns
unfolding within_distance
returns c h = ap (λ x. le x c.args.limit) (c.distance.ensures h)
