-- `mouths::approach_mouth` meets its contract, by the approach. Assumes nothing.
use mathlib.Core.Path.{sym, ap, ◌∙◌}
use Rattle.mouth_proposals.specs.Candidates.{candidate_form, approach_mouth}
use Rattle.mouth_proposals.proofs.mouths.approach_mouth.Goals as goal

pub returns-in_err-approach : goal.returns-in_err-approach
unfolding approach_mouth
returns-in_err-approach c =
    let s = c.args in
    λ C a P I A l n e M. ap (candidate_form C s.m a) c.from_residual.ensures ∙ ap (approach_mouth C s.m a) (sym c.in_err-approach.was)
