-- `row_runs::run::put_stretch` meets its contract: a gap's cells are alone already, and a run's are put under its first. Assumes nothing.
use mathlib.Core.Path.{sym, ◌∙◌}
use borrow.Author.Tests.{not-false}
use Rattle.row_runs.proofs.RowNames.{run-put}
use Rattle.row_runs.proofs.run.put_stretch.Goals as goal

pub returns : goal.returns
returns c =
    λ n name F fresh h. run-put (sym c.is_walkable.ensures ∙ not-false _ c.if-not-is_walkable.false-raw) (c.put_run.ensures n name F fresh h)
