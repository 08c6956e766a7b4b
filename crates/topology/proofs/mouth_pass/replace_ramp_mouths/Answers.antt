-- `mouth_pass::replace_ramp_mouths` meets its contract. The invariant: what is known of every context that is shown; the measure is the weight of what is
-- left. Assumes nothing.
use native.Mathlib.Omega.{arith}
use mathlib.Core.Path.{◌≡◌, refl, ◌∙◌}
use lib.ListN.{length}
use Rattle.laws.specs.ListLaws.Flags.{none_set}
use Rattle.mouth_selection.proofs.BestSteps.{best_put, weight-put}
use Rattle.mouth_selection.proofs.RoundLaws.{of_some}
use Rattle.topology.proofs.MouthLoops.{pass-lists, pass-ramp, pass-starts}
use borrow.Author.Rules.{rules}
use Rattle.topology.proofs.mouth_pass.replace_ramp_mouths.Goals as goal

pub find_bests-requires : goal.find_bests-requires
find_bests-requires c =
    let R = c.requires.lists_show.1 in
    (c.requires.lists_show.0, (c.args.marks.now, (R, pass-starts R c.requires.none_marked (none_set 256))))

pub loop-a-init : goal.loop-a-init
loop-a-init c = (refl, (refl, (refl, λ C R. c.find_bests.ensures C c.args.marks.now R (pass-starts R c.requires.none_marked (none_set 256)))))

pub best_of_ramp-requires : goal.best_of_ramp-requires
best_of_ramp-requires c =
    let C = c.requires.lists_show.0 in
    let R = c.requires.lists_show.1 in
    let P = (c.advance.ensures.progress C (pass-lists R) (c.loop-a.invariant.1.1.1 C R)).progress in
    (C, (P.chosen, (pass-ramp R P.anchored (of_some c.in-Some.is c.advance.ensures.stale).0, P.state)))

pub offset_bounds-bests-a : goal.offset_bounds-bests-a
offset_bounds-bests-a c =
    let R = c.requires.lists_show.1 in
    let below = (of_some c.in-Some.is c.advance.ensures.stale).0 in
    omega (arith, below, R.shows.counted, R.shows.bounds.few)

pub bounds-bests-a : goal.bounds-bests-a
bounds-bests-a c =
    let R = c.requires.lists_show.1 in
    let below = (of_some c.in-Some.is c.advance.ensures.stale).0 in
    omega (arith, below, R.shows.counted, R.shows.bounds.few)

pub loop-a-smaller : goal.loop-a-smaller
loop-a-smaller c =
    let R = c.requires.lists_show.1 in
    let E = c.advance.ensures in
    let at = of_some c.in-Some.is E.stale in
    let long : length c.advance.new.bests ≡ 256 = search rules in
    let less = weight-put _ _ _ _ _ _ c.advance.new.bests c.in-Some.a c.best_of_ramp.result at.0 (omega (arith, at.0, R.shows.counted, R.shows.bounds.few, long)) at.1 c.best_of_ramp.ensures.left in
    omega (arith, less, E.weight)

pub loop-a-preserved : goal.loop-a-preserved
loop-a-preserved c =
    let inv = c.loop-a.invariant in
    let E = c.advance.ensures in
    let below = (of_some c.in-Some.is E.stale).0 in
    let long : length c.advance.new.bests ≡ 256 = search rules in (
      E.same_marks ∙ inv.0,
      (
        E.same_removed ∙ inv.1.0,
        (
          E.long ∙ inv.1.1.0,
          λ C R.
              let P = (E.progress C (pass-lists R) (inv.1.1.1 C R)).progress in
              best_put P (c.best_of_ramp.ensures.best C P.chosen (pass-ramp R P.anchored below) P.state) (omega (arith, below, R.shows.counted, R.shows.bounds.few, long)) (λ i h d. h),
        ),
      ),
    )
