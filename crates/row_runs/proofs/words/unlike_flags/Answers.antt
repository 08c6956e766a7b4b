-- `row_runs::words::unlike_flags` meets its contract: each byte has one of the two flags. Assumes nothing.
use mathlib.Core.Path.{sym, ◌∙◌, ap}
use Rattle.row_runs.specs.Stretch.{walks, walks_as}
use Rattle.row_runs.specs.Words.{stops}
use Rattle.row_runs.proofs.WordLaws.{flags_bound, other_flags}
use Rattle.row_runs.proofs.words.unlike_flags.Goals as goal

pub overflow_sub-result : goal.overflow_sub-result
overflow_sub-result c =
    let a = c.args in
    flags_bound (walks a.cells.now) a.c c.open_flags-flags.result c.open_flags-flags.ensures

pub returns-then-walkable : goal.returns-then-walkable
returns-then-walkable c =
    let a = c.args in
    other_flags (walks a.cells.now) a.c c.open_flags-flags.result c.open_flags-flags.ensures
    ∙ ap (λ b. stops 8 (walks_as b a.cells.now) a.c) (sym c.if-walkable.true)
