-- `sheet::fill_cells` meets its contract. The loop's invariant is `Filling`: storing the numbers that are left makes the list that is wanted. What was judged is
-- not refused. Assumes nothing.
use native.Mathlib.Omega.{arith}
use Rattle.sheet.proofs.Items.{as_cell, up_to_most, keeps-cell}
use Rattle.sheet.proofs.Filling.{unwrapped, filling_whole, filling_ends, filling_unwraps, filling_goes_on}
use Rattle.sheet.proofs.fill_cells.Goals as goal

pub loop-entry-init : goal.loop-entry-init
loop-entry-init c = filling_whole c.requires

pub unwrap-read-requires : goal.unwrap-read-requires
unwrap-read-requires c = filling_unwraps c.loop-entry.invariant c.loop-entry-test.true _ (as_cell _ _ c.item.ensures)

pub overflow_cast-entry : goal.overflow_cast-entry
overflow_cast-entry c = omega (arith, up_to_most 255 _ _ (unwrapped _ c.item.ensures c.unwrap-read.ensures))

pub loop-entry-preserved : goal.loop-entry-preserved
loop-entry-preserved c =
    filling_goes_on c.loop-entry.invariant c.loop-entry-test.true keeps-cell
    (unwrapped _ (as_cell _ _ c.item.ensures) c.unwrap-read.ensures)

pub returns : goal.returns
returns c = filling_ends c.loop-entry.invariant c.loop-entry-test.false
