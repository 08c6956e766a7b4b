-- `approaches::shared_region` meets its contract: which of the two regions the mouth's rows name. Assumes nothing.
use mathlib.Core.Path.{sym, ◌∙◌}
use mathlib.Core.Bool.{◌&&◌}
use Rattle.context.specs.Rows.{pair_form}
use Rattle.mouth_proposals.proofs.ApproachLaws.{shared_is}
use Rattle.mouth_proposals.proofs.approaches.shared_region.Goals as goal

pub returns : goal.returns
returns c =
    let s = c.args in
    λ C P l h. c.region_of.ensures ∙ shared_is C s.m s.outer (pair_form s.q) h
    (λ i. sym c.ne.ensures i && sym (c.is_incident.ensures C P l) i) (λ i. sym c.ne-2.ensures i && sym (c.is_incident-2.ensures C P l) i)
