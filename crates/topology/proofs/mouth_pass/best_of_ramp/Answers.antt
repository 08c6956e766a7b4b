-- `mouth_pass::best_of_ramp` meets its contract: a boundary without a ramp, and one that is no full cut, has no candidates. Assumes nothing.
use Rattle.std.proofs.Common.{ap, sym, subst, refl, ◌∙◌, ◌<◌, []}
use borrow.Author.Tests.{not-false}
use Rattle.mouth_proposals.specs.Candidates.{mouth_candidate}
use lib.Dec.{eqb}
use Rattle.mouth_proposals.proofs.CandidateRoom.{filled-empty, no_ramp_none, no_cut_none}
use Rattle.laws.specs.ListLaws.Options.{absent}
use Rattle.mouth_selection.specs.Rounds.{near_least}
use Rattle.topology.proofs.MouthLoops.{ramp-best}
use Rattle.topology.proofs.mouth_pass.best_of_ramp.Goals as goal
use Rattle.topology.proofs.mouth_pass.best_of_ramp.Goals.{then-not-has_ramp-via-then-not-has_ramp, then-not-has_ramp-via-else-not-has_ramp+then-not-full_cut}

pub has_ramp-requires : goal.has_ramp-requires
has_ramp-requires c = (c.requires.1.1.0.shows.placed c.args.a c.requires.1.1.0.below).whole

pub returns-then-not-has_ramp-clause-best : goal.returns-then-not-has_ramp-clause-best
unfolding near_least
returns-then-not-has_ramp-clause-best c = λ C T A S.
    let place : c.args.a < C.count = subst (λ n. c.args.a < n) (sym A.shows.counted) A.below in
    ramp-best A {entries = []}
    (filled-empty (mouth_candidate C c.args.a) c.args.context.count (λ m.
    elim c.then-not-has_ramp.branch [
      | then-not-has_ramp-via-then-not-has_ramp w ↦ no_ramp_none C c.args.a m (ap (λ b. eqb b.kind 0) (A.shows.bounds.at c.args.a place) ∙ not-false _ (sym c.has_ramp.ensures ∙ w.if-not-has_ramp.true))
      | then-not-has_ramp-via-else-not-has_ramp+then-not-full_cut w ↦ no_cut_none C c.args.a m (sym (w.full_cut.ensures C A.cuts place) ∙ w.if-not-full_cut.true)
    ]))
    (record { known = absent; least = refl })
