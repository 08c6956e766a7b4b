-- `shapes::one_edge` meets its contract: just one of the two rows is found. Assumes nothing.
use Rattle.context.specs.Rows.{pair_form}
use Rattle.mouth_proposals.proofs.ShapeTests.{one_common}
use Rattle.mouth_proposals.proofs.shapes.one_edge.Goals as goal

pub returns : goal.returns
returns c =
    let s = c.args in
    one_common (pair_form s.mouth.first) (pair_form s.mouth.second) (pair_form s.ramp.first) (pair_form s.ramp.second) c.have-first.ensures c.have-second.ensures
