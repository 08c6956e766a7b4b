-- `row_runs::corners::join_diagonals` meets its contract. The loop's invariant is `Cornering`. Assumes nothing.
use Rattle.std.proofs.Common.{arith, ◌+◌}
use Rattle.row_runs.proofs.CornerNames.{cornering_starts, cornering_goes_on_block, cornering_ends_by, squares-asked, all-squares}
use Rattle.row_runs.proofs.corners.join_diagonals.Goals as goal

pub loop-c-init : goal.loop-c-init
loop-c-init c = cornering_starts _ _ _ _ _ _

pub join_block-requires : goal.join_block-requires
join_block-requires c =
    squares-asked c.requires c.loop-c.invariant (c.loop-c.c + 32 + 1) (omega (arith, c.loop-c-test.true))

pub loop-c-preserved : goal.loop-c-preserved
loop-c-preserved c = cornering_goes_on_block c.loop-c.invariant c.loop-c-test.true c.join_block.ensures

pub join_squares-requires : goal.join_squares-requires
join_squares-requires c = squares-asked c.requires c.loop-c.invariant _ (omega arith)

pub returns : goal.returns
returns c = all-squares (cornering_ends_by c.loop-c.invariant c.join_squares.ensures)
