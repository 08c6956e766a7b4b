-- `mouths::star_mouth` meets its contract, by its tests. Assumes nothing.
use mathlib.Core.Path.{sym, ap, ap₂, ◌∙◌}
use Rattle.definitions.specs.Scan.{all}
use Rattle.definitions.specs.MouthShapes.{regions_of}
use Rattle.context.specs.Shown.{pairs_between}
use Rattle.mouth_proposals.specs.Outers.{inner_fits}
use Rattle.mouth_proposals.specs.Candidates.{candidate_form}
use Rattle.mouth_proposals.proofs.Fitting.{star_none, star_when, two_shown, fits-shown}
use Rattle.mouth_proposals.proofs.mouths.star_mouth.Goals as goal

pub returns-then-overlay_only-incident_count : goal.returns-then-overlay_only-incident_count
returns-then-overlay_only-incident_count c =
    let s = c.args in
    λ C a P I A l n b M. star_none C s.m a s.sides.outer s.sides.approach (sym (c.overlay_only.ensures C s.m a M)) (two_shown A I s.sides.approach c.requires.approach_named.0 n c.incident_count.ensures) (sym b) c.if-overlay_only-incident_count.true

pub returns : goal.returns
returns c =
    let s = c.args in
    λ C a P I A l n b M.
    ap (candidate_form C s.m a) c.then_some.ensures
    ∙ star_when C s.m a s.sides.outer s.sides.approach (sym (c.overlay_only.ensures C s.m a M)) (two_shown A I s.sides.approach c.requires.approach_named.0 n c.incident_count.ensures) (sym b) c.if-overlay_only-incident_count.false
    (fits-shown A I s.m s.sides.outer s.sides.approach (P.named s.m l)
    ∙ ap (λ l. all (inner_fits s.regions.marks.now s.regions.counts.now s.sides.outer s.sides.approach) (regions_of l)) (P.at s.m l ∙ sym (ap₂ (pairs_between s.context.pairs.now) c.rows.ensures.0 c.rows.ensures.1))
    ∙ sym c.inner_fit.ensures) (sym M.broad) c.of_approach.ensures
