-- `shapes::has_three` meets its contract: of four regions, the first and just two of the others are new. Assumes nothing.
use mathlib.Core.Path.{◌∙◌}
use mathlib.Core.Bool.{not, ◌&&◌, ◌||◌}
use lib.Dec.{eqb}
use Rattle.context.specs.Rows.{pair_form}
use Rattle.mouth_proposals.proofs.ShapeTests.{three_distinct}
use Rattle.mouth_proposals.proofs.shapes.has_three.Goals as goal

pub returns : goal.returns
returns c =
    let p = c.args.mouth.first in
    let q = c.args.mouth.second in
    let second = not (eqb p.hi p.lo) in
    let newer = not (eqb q.hi q.lo) in
    (λ i.
    (((second && not (c.contains-third.ensures i)) && not (not (c.contains.ensures i) && newer))
    || ((second && not (not (c.contains-third.ensures i))) && (not (c.contains.ensures i) && newer)))
    || ((not second && not (c.contains-third.ensures i)) && (not (c.contains.ensures i) && newer)))
    ∙ three_distinct (pair_form p) (pair_form q)
