-- `row_runs::corners::join_corners` meets its contract: a square without marks and one that is not walkable need nothing, and else both steps are asked.
-- Assumes nothing.
use mathlib.Core.Path.{sym, ◌∙◌}
use borrow.Author.Tests.{not-false}
use Rattle.row_runs.proofs.CornerNames.{corners-done, second-asked}
use Rattle.row_runs.proofs.corners.join_corners.Goals as goal

pub join_step-requires-2 : goal.join_step-requires-2
join_step-requires-2 c = second-asked c.requires c.join_step.ensures

pub returns : goal.returns
returns c =
    corners-done (sym c.is_square.ensures ∙ not-false _ c.if-not-is_square.false-raw) c.join_step.ensures c.join_step-2.ensures
