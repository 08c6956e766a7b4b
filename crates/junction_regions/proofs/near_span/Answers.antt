-- `near_span` meets its contract, from what `point_segment_distance` ensures: the limit is the definition's. Assumes nothing.
use mathlib.Core.Path.{ap₂}
use lib.Ieee.{le}
use Rattle.junction_regions.proofs.Literals.{radius_is}
use Rattle.junction_regions.specs.Tests.{near_span}
use Rattle.junction_regions.proofs.near_span.Goals as goal

pub returns : goal.returns
unfolding near_span
returns c h = ap₂ le (c.point_segment_distance.ensures h) radius_is
