-- `parts_of` meets its contract. Assumes nothing.
use Rattle.cut_steps.proofs.SpanParts.{parted}
use Rattle.cut_steps.proofs.walk.parts_of.Goals as goal

pub returns : goal.returns
returns c =
    let a = c.args in
    parted a.strip a.limit c.near_axis-axis.result c.near_axis-axis.ensures c.max-end.ensures c.max.ensures c.min-from.ensures c.saturating_sub-outer.ensures c.min.ensures c.max-to.ensures
