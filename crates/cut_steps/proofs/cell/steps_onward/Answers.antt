-- `cell::steps_onward` meets its contract: away from the grid's edge by `steps_inside`, and at it direction by direction. Assumes nothing.
use mathlib.Core.Path.{◌∙◌}
use Rattle.cut_steps.specs.Cell.{onward_mask}
use Rattle.cut_steps.specs.Crossed.{steps_onward}
use Rattle.cut_steps.proofs.cell.steps_onward.Goals as goal

pub returns-then-cell-grid : goal.returns-then-cell-grid
returns-then-cell-grid c = c.steps_inside.ensures

pub returns : goal.returns
unfolding steps_onward
returns c =
    c.onward_mask.ensures ∙ (λ i. onward_mask (c.is_there.ensures i) (c.is_there-2.ensures i) (c.is_there-3.ensures i) (c.is_there-4.ensures i))
