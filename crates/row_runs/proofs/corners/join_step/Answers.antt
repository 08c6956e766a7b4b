-- `row_runs::corners::join_step` meets its contract, by its two ways. Assumes nothing.
use mathlib.Core.Path.{sym, ◌∙◌}
use Rattle.row_runs.proofs.CornerNames.{step_stays, step-links}
use Rattle.row_runs.proofs.corners.join_step.Goals as goal

pub returns-then-is_cut : goal.returns-then-is_cut
returns-then-is_cut c = step_stays (sym c.is_cut.ensures ∙ c.if-is_cut.true)

pub returns : goal.returns
returns c =
    step-links (sym c.is_cut.ensures ∙ c.if-is_cut.false) c.join.ensures
