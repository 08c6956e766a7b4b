-- `candidates::push_ramp` meets its contract, by its tests. Assumes nothing.
use mathlib.Core.Path.{sym, ◌∙◌}
use borrow.Author.Tests.{not-false}
use Rattle.mouth_proposals.specs.Candidates.{mouth_candidate}
use Rattle.mouth_proposals.proofs.SafeLists.{below, stretch_at, kind-shown}
use Rattle.mouth_proposals.proofs.CandidateRoom.{filled-empty, no_ramp_none, no_cut_none}
use Rattle.mouth_proposals.proofs.candidates.push_ramp.Goals as goal
use Rattle.mouth_proposals.proofs.candidates.push_ramp.Goals.{then-not-has_ramp-via-then-not-has_ramp, then-not-has_ramp-via-else-not-has_ramp+then-not-full_cut}

pub returns-then-not-has_ramp-clause-filled : goal.returns-then-not-has_ramp-clause-filled
returns-then-not-has_ramp-clause-filled c =
    λ C S T.
    let la = below S.counted c.requires.place in
    filled-empty (mouth_candidate C c.args.a) c.args.context.count (λ m.
    elim c.then-not-has_ramp.branch [
      | then-not-has_ramp-via-then-not-has_ramp w ↦ no_ramp_none C c.args.a m (kind-shown S.bounds c.args.a la ∙ not-false _ (sym c.has_ramp.ensures ∙ w.if-not-has_ramp.true))
      | then-not-has_ramp-via-else-not-has_ramp+then-not-full_cut w ↦ no_cut_none C c.args.a m (sym (w.full_cut.ensures C T la) ∙ w.if-not-full_cut.true)
    ])

pub find_other_ends-ends-requires-clause-stretches : goal.find_other_ends-ends-requires-clause-stretches
find_other_ends-ends-requires-clause-stretches c =
    λ i l. stretch_at c.requires.shown l
