-- `row_runs::corners::join_squares` meets its contract. The loop's invariant is `Cornering`. Assumes nothing.
use native.Mathlib.Omega.{arith}
use mathlib.Core.Path.{refl}
use Rattle.row_runs.proofs.CornerNames.{cornering_starts, cornering_goes_on, cornering_ends, corners-asked}
use Rattle.row_runs.proofs.corners.join_squares.Goals as goal

pub loop-c-init : goal.loop-c-init
loop-c-init c = cornering_starts _ _ _ _ _ _

pub join_corners-requires : goal.join_corners-requires
join_corners-requires c = corners-asked c.requires c.loop-c.invariant (omega arith)

pub loop-c-preserved : goal.loop-c-preserved
loop-c-preserved c = cornering_goes_on c.loop-c.invariant refl (omega arith) c.join_corners.ensures

pub returns : goal.returns
returns c = cornering_ends c.loop-c.invariant (omega arith)
