-- `approaches::approach_of` meets its contract, by the ramp's full pair and the mouth's shape. Assumes nothing.
use mathlib.Core.Path.{sym, ap, ◌∙◌}
use mathlib.Core.Bool.{true}
use Rattle.std.specs.Prelude.{Some}
use Rattle.definitions.specs.MouthShapes.{mouth_shape}
use Rattle.context.specs.Rows.{full_pair_of}
use Rattle.mouth_proposals.specs.Rows.{rows_of, shape_form}
use Rattle.mouth_proposals.specs.Candidates.{approach_of}
use Rattle.mouth_proposals.proofs.ApproachLaws.{full-pairs, all_of_one}
use Rattle.mouth_proposals.proofs.approaches.approach_of.Goals as goal

pub returns : goal.returns
returns c =
    let s = c.args in
    λ C T P l k.
    let e = sym (ap full_pair_of c.in_ok-q.was) ∙ c.full_pair.ensures C T P k in
    c.approach_from.ensures C P l (all_of_one (full-pairs C s.a _ e) (P.named s.a k)).1.0
    (ap (λ r. shape_form r (Some c.in_ok-s.s)) (P.at s.m l)
    ∙ sym (ap (shape_form (rows_of s.context.pairs.now s.context.starts.now s.m)) c.in_ok-s.was) ∙ c.star.ensures ∙ sym (ap (mouth_shape true) (P.at s.m l)))
    ∙ ap (λ o. approach_of o (mouth_shape true (C.pairs s.m))) e
