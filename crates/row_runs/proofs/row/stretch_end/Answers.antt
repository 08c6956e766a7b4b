-- `row_runs::row::stretch_end` meets its contract, by each of its two ways. Assumes nothing.
use mathlib.Core.Path.{sym, ap, ◌∙◌}
use mathlib.Core.Bool.{◌&&◌}
use Rattle.laws.specs.ListLaws.Tests.{both}
use Rattle.row_runs.proofs.Stretches.{alike-stretch, run-stretch}
use Rattle.row_runs.proofs.row.stretch_end.Goals as goal

pub returns-then-walkable-marked : goal.returns-then-walkable-marked
returns-then-walkable-marked c =
    run-stretch _ _ _ _ _ c.requires.more (sym c.is_walkable-walkable.ensures ∙ (both _ _ c.if-walkable-marked.true).0) c.run_end.ensures

pub returns : goal.returns
returns c =
    alike-stretch _ _ _ _ _ c.requires.more (sym c.is_walkable-walkable.ensures) (λ w. c.requires.clear (sym (ap (λ b. b && c.args.marked) w) ∙ c.if-walkable-marked.false)) c.alike_end.ensures
