-- `shapes::all_named` meets its contract: what holds of each of the four regions holds of those that differ. Assumes nothing.
use mathlib.Core.Path.{◌∙◌}
use mathlib.Core.Bool.{◌&&◌}
use Rattle.context.specs.Rows.{pair_form}
use Rattle.mouth_proposals.proofs.ShapeTests.{named_in-all}
use Rattle.mouth_proposals.proofs.shapes.all_named.Goals as goal

pub returns : goal.returns
returns c =
    let s = c.args in
    (λ i. ((c.name.ensures i && c.name-2.ensures i) && c.name-3.ensures i) && c.name-4.ensures i)
    ∙ named_in-all (pair_form s.mouth.first) (pair_form s.mouth.second) (pair_form s.ramp.first) (pair_form s.ramp.second)
