-- `row_runs::numbering::label_at` meets its contract: the tests are the definition's. Assumes nothing.
use mathlib.Core.Path.{◌≡◌, sym, ◌∙◌}
use mathlib.Core.Bool.{true}
use borrow.Author.Tests.{not-false}
use Rattle.row_runs.specs.Stretch.{walks}
use Rattle.row_runs.proofs.Numbers.{label-new, label-known}
use Rattle.row_runs.proofs.numbering.label_at.Goals as goal

pub returns-then-p-c : goal.returns-then-p-c
returns-then-p-c c =
    let walked : walks c.args.cells.now c.args.c ≡ true = sym c.is_walkable.ensures ∙ not-false _ c.if-not-is_walkable.false-raw in
    let a = c.args in
    label-new a.cells.now a.labels.now a.c a.id walked (c.if-p-c.true)

pub returns : goal.returns
returns c =
    let walked : walks c.args.cells.now c.args.c ≡ true = sym c.is_walkable.ensures ∙ not-false _ c.if-not-is_walkable.false-raw in
    let a = c.args in
    label-known a.cells.now a.labels.now a.c a.id walked c.if-p-c.false
