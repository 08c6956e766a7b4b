-- `row_runs::row::goes_on` meets its contract: the two tests are the definition's. Assumes nothing.
use mathlib.Core.Path.{sym, ◌∙◌}
use Rattle.row_runs.proofs.Stretches.{goes_on-blocked, goes_on_by}
use Rattle.row_runs.proofs.row.goes_on.Goals as goal

pub returns-then-is_walkable : goal.returns-then-is_walkable
returns-then-is_walkable c = goes_on_by _ _ _ (sym c.is_walkable.ensures ∙ c.if-is_walkable.true) c.is_cut.result c.is_cut.ensures

pub returns-else-is_walkable : goal.returns-else-is_walkable
returns-else-is_walkable c = c.if-is_walkable.false ∙ goes_on-blocked _ _ _ (sym c.is_walkable.ensures ∙ c.if-is_walkable.false)
