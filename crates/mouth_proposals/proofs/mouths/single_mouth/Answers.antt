-- `mouths::single_mouth` meets its contract, by its tests. Assumes nothing.
use mathlib.Core.Path.{sym, ap, ◌∙◌}
use mathlib.Core.Bool.{not, ◌&&◌, ◌||◌}
use Rattle.mouth_proposals.specs.Candidates.{candidate_form}
use Rattle.mouth_proposals.proofs.Fitting.{single_by, two_shown, anchored-shown}
use Rattle.mouth_proposals.proofs.mouths.single_mouth.Goals as goal

pub returns : goal.returns
returns c =
    let s = c.args in
    λ C m a I A n b M.
    let o = c.overlay_only-overlay.ensures C m a M in
    let two = two_shown A I s.sides.approach c.requires.approach_named.0 n.1 c.incident_count-two.ensures in
    ap (candidate_form C m a) c.then_some.ensures
    ∙ single_by C m a s.sides.outer s.sides.approach (anchored-shown A s.sides.approach c.requires.approach_named.0 n.1 c.is_anchored.ensures)
    (λ i. sym o i && (anchored-shown A s.sides.outer c.requires.outer_named.0 n.0 c.is_anchored-outer_anchored.ensures i || not (two i))) (sym b) (λ i. (sym M.broad i || sym o i) && two i)
    c.of_approach.ensures
