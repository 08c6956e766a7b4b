-- `segments::on_segment` meets its contract: its four tests are those of the definition. Assumes nothing.
use mathlib.Core.Bool.{◌&&◌}
use lib.Dec.{leb}
use Rattle.definitions.specs.Spans.{on_segment}
use Rattle.span_geometry.proofs.segments.on_segment.Goals as goal

pub returns : goal.returns
unfolding on_segment
returns c =
    let point = c.args.point in
    λ i.
    leb (c.min.ensures i) point.x && leb point.x (c.max.ensures i) && leb (c.min-2.ensures i) point.y
    && leb point.y (c.max-2.ensures i)
