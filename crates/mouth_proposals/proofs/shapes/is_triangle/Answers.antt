-- `shapes::is_triangle` meets its contract: its three tests are the definition's. Assumes nothing.
use Rattle.context.specs.Rows.{pair_form}
use Rattle.mouth_proposals.proofs.ShapeTests.{triangle_by}
use Rattle.mouth_proposals.proofs.shapes.is_triangle.Goals as goal

pub returns : goal.returns
returns c =
    let s = c.args in
    triangle_by (pair_form s.mouth.first) (pair_form s.mouth.second) (pair_form s.ramp.first) (pair_form s.ramp.second) c.has_three.ensures c.all_named.ensures c.one_edge.ensures
