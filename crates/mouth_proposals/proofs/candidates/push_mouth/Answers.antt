-- `candidates::push_mouth` meets its contract: what is found, if it is near enough, is the next entry. Assumes nothing.
use mathlib.Core.Path.{sym, ap, ◌∙◌, subst}
use lib.Dec.{T}
use mathlib.Core.Bool.{not}
use lib.Ieee.{binary64, lt, to_bits}
use Rattle.definitions.specs.RampMouths.{max_mouth_distance}
use Rattle.mouth_proposals.specs.Candidates.{candidate_form}
use Rattle.mouth_proposals.specs.Listed.{candidate}
use Rattle.mouth_proposals.proofs.SafeLists.{below}
use Rattle.mouth_proposals.proofs.OuterWithin.{outer-inside}
use Rattle.mouth_proposals.proofs.CandidateLaws.{separation-number, none_found, far-found, near-found, filled_none, filled_more}
use Rattle.mouth_proposals.proofs.candidates.push_mouth.Goals as goal

pub float_to_bits-separation : goal.float_to_bits-separation
float_to_bits-separation c =
    let L = c.requires.shown in
    subst (λ b. T (not b)) (sym (separation-number L.context c.args.m c.args.ramp.boundary
    (c.separation_of-separation.ensures L.context L.shows.bounds (below L.shows.counted c.requires.places.1.0) (below L.shows.counted c.requires.places.1.1)))) tt

pub returns-in-None-clause-filled : goal.returns-in-None-clause-filled
returns-in-None-clause-filled c =
    let L = c.requires.shown in λ C l S T ramp cut E F.
    filled_none F (none_found C c.args.ramp.boundary c.args.m (sym (ap (candidate_form C c.args.m c.args.ramp.boundary) c.in-None.is) ∙ c.mouth_candidate.ensures C S T ramp cut E))

pub returns-then-is_close-clause-filled : goal.returns-then-is_close-clause-filled
returns-then-is_close-clause-filled c =
    let L = c.requires.shown in λ C l S T ramp cut E F.
    let lm = below S.counted c.requires.places.1.0 in
    let la = below S.counted c.requires.places.1.1 in
    let e = sym (ap (candidate_form C c.args.m c.args.ramp.boundary) c.in-Some.is) ∙ c.mouth_candidate.ensures C S T ramp cut E in
    let d = c.separation_of-separation.ensures C S.bounds lm la in
    rw c.of.ensures (filled_more C (candidate c.args.m c.args.ramp.boundary c.in-Some.found.outer c.in-Some.found.kind (to_bits binary64 c.separation_of-separation.result)) F c.requires.roomy c.requires.places.0 lm la (outer-inside C c.args.ramp.boundary c.args.m (S.rows.named c.args.m lm) _ _ e)
    (ap (to_bits binary64) d) (near-found C c.args.ramp.boundary c.args.m _ _ e (sym (ap (λ x. not (lt max_mouth_distance x)) d) ∙ sym c.is_close.ensures ∙ c.if-is_close.true)))

pub returns-else-is_close-clause-filled : goal.returns-else-is_close-clause-filled
returns-else-is_close-clause-filled c =
    let L = c.requires.shown in λ C l S T ramp cut E F.
    let lm = below S.counted c.requires.places.1.0 in
    let la = below S.counted c.requires.places.1.1 in
    let e = sym (ap (candidate_form C c.args.m c.args.ramp.boundary) c.in-Some.is) ∙ c.mouth_candidate.ensures C S T ramp cut E in
    filled_none F (far-found C c.args.ramp.boundary c.args.m _ _ e (sym (ap (λ x. not (lt max_mouth_distance x)) (c.separation_of-separation.ensures C S.bounds lm la)) ∙ sym c.is_close.ensures ∙ c.if-is_close.false))
