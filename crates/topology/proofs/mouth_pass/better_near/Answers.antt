-- `mouth_pass::better_near` meets its contract, by its tests. Assumes nothing.
use mathlib.Core.Path.{sym, ◌∙◌}
use Rattle.laws.specs.ListLaws.Options.{on_map_lem}
use Rattle.mouth_selection.proofs.RoundLaws.{safe-key}
use Rattle.topology.proofs.MouthLoops.{proposal-safe, found-left, found-near, entry-better, far-stays, refused-stays, behind-stays}
use Rattle.topology.proofs.mouth_pass.better_near.Goals as goal
use Rattle.topology.proofs.mouth_pass.better_near.Goals.{else-is_better-via-then-is_better+then-is_left+else-corners_near, else-is_better-via-then-is_better+else-is_left, else-is_better-via-else-is_better}

pub is_better-requires : goal.is_better-requires
is_better-requires c =
    let A = c.requires.1.0 in
    (safe-key A.located.bounds A.known, on_map_lem (λ e K. safe-key A.located.bounds K) c.requires.1.1)

pub is_left-requires-clause-safe : goal.is_left-requires-clause-safe
is_left-requires-clause-safe c = proposal-safe c.requires.1.0 c.proposal-proposal.ensures

pub returns-then-corners_near-clause-better : goal.returns-then-corners_near-clause-better
returns-then-corners_near-clause-better c = λ C T A K S.
    let same = c.proposal-proposal.ensures in
    entry-better A K (sym c.is_better.ensures ∙ c.if-is_better.true) (sym (found-near A same (c.corners_near.ensures C)) ∙ c.if-corners_near.true)
    (sym (found-left A same S (c.is_left.ensures.left C T)) ∙ c.if-is_left.true)

pub returns-clause-better : goal.returns-clause-better
returns-clause-better c = λ C T A K S.
    let same = c.proposal-proposal.ensures in
    elim c.else-is_better.branch [
      | else-is_better-via-then-is_better+then-is_left+else-corners_near w ↦ far-stays A K (sym (found-near A same (w.corners_near.ensures C)) ∙ w.if-corners_near.false)
      | else-is_better-via-then-is_better+else-is_left w ↦ refused-stays A K (sym (found-left A same S (w.is_left.ensures.left C T)) ∙ w.if-is_left.false)
      | else-is_better-via-else-is_better w ↦ behind-stays A K (sym c.is_better.ensures ∙ w.if-is_better.false)
    ]
