-- `row_runs::south::join_overlap` meets its contract: each of the first three ways shows that nothing is to join, and the last has an uncut step. Assumes nothing.
use mathlib.Core.Path.{sym, ◌∙◌}
use borrow.Author.Tests.{not-true, not-false}
use Rattle.row_runs.proofs.SouthNames.{blocked-above, blocked-below, all-cut, one_joined}
use Rattle.row_runs.proofs.south.join_overlap.Goals as goal

pub returns-then-not-is_walkable : goal.returns-then-not-is_walkable
returns-then-not-is_walkable c = blocked-above (sym c.is_walkable.ensures ∙ not-true _ c.if-not-is_walkable.true-raw)

pub returns-then-not-is_walkable-2 : goal.returns-then-not-is_walkable-2
returns-then-not-is_walkable-2 c = blocked-below (sym c.is_walkable-2.ensures ∙ not-true _ c.if-not-is_walkable-2.true-raw)

pub returns-then-end-c : goal.returns-then-end-c
returns-then-end-c c = all-cut c.south_end-c.ensures c.if-end-c.true

pub returns : goal.returns
returns c =
    one_joined c.south_end-c.ensures c.if-end-c.false (sym c.is_walkable.ensures ∙ not-false _ c.if-not-is_walkable.false-raw)
    (sym c.is_walkable-2.ensures ∙ not-false _ c.if-not-is_walkable-2.false-raw) c.join.ensures
