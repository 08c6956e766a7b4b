-- `row_runs::south::join_rows` meets its contract. The loop's invariant is `Southing`; the measure is how many columns are left. Assumes nothing.
use Prim.Native.Nat.{◌+◌}
use native.Mathlib.Omega.{arith}
use Rattle.row_runs.proofs.SouthNames.{Reach, southing_starts, upper-reach, lower-reach, overlap, overlap-asked, southing_goes_on, southing_ends}
use Rattle.row_runs.proofs.south.join_rows.Goals as goal

pub loop-c-init : goal.loop-c-init
loop-c-init c = southing_starts _ _ _ _ _ _ c.requires

pub overflow_sub-b : goal.overflow_sub-b
overflow_sub-b c =
    let lower : let arg = c.args in Reach arg.grid.terrain.cells.now arg.grid.masks.now (arg.up + arg.grid.terrain.width) (arg.up + arg.grid.terrain.width + arg.grid.terrain.width) arg.queue.now (c.loop-c.c + arg.grid.terrain.width) c.end_at-b.result = lower-reach c.loop-c.invariant c.loop-c-test.true c.end_at-b.result c.end_at-b.ensures in
    omega (arith, lower.high)

pub join_overlap-requires : goal.join_overlap-requires
join_overlap-requires c =
    let upper : let arg = c.args in Reach arg.grid.terrain.cells.now arg.grid.masks.now arg.up (arg.up + arg.grid.terrain.width) arg.queue.now c.loop-c.c c.end_at-a.result = upper-reach c.loop-c.invariant c.loop-c-test.true c.end_at-a.result c.end_at-a.ensures in
    let lower : let arg = c.args in Reach arg.grid.terrain.cells.now arg.grid.masks.now (arg.up + arg.grid.terrain.width) (arg.up + arg.grid.terrain.width + arg.grid.terrain.width) arg.queue.now (c.loop-c.c + arg.grid.terrain.width) c.end_at-b.result = lower-reach c.loop-c.invariant c.loop-c-test.true c.end_at-b.result c.end_at-b.ensures in
    overlap-asked c.loop-c.invariant c.loop-c-test.true upper lower c.min-e.ensures c.requires

pub loop-c-smaller : goal.loop-c-smaller
loop-c-smaller c =
    let upper : let arg = c.args in Reach arg.grid.terrain.cells.now arg.grid.masks.now arg.up (arg.up + arg.grid.terrain.width) arg.queue.now c.loop-c.c c.end_at-a.result = upper-reach c.loop-c.invariant c.loop-c-test.true c.end_at-a.result c.end_at-a.ensures in
    let lower : let arg = c.args in Reach arg.grid.terrain.cells.now arg.grid.masks.now (arg.up + arg.grid.terrain.width) (arg.up + arg.grid.terrain.width + arg.grid.terrain.width) arg.queue.now (c.loop-c.c + arg.grid.terrain.width) c.end_at-b.result = lower-reach c.loop-c.invariant c.loop-c-test.true c.end_at-b.result c.end_at-b.ensures in
    omega (arith, c.loop-c-test.true, (overlap c.loop-c.invariant c.loop-c-test.true upper lower c.min-e.ensures).some)

pub loop-c-preserved : goal.loop-c-preserved
loop-c-preserved c =
    let upper : let arg = c.args in Reach arg.grid.terrain.cells.now arg.grid.masks.now arg.up (arg.up + arg.grid.terrain.width) arg.queue.now c.loop-c.c c.end_at-a.result = upper-reach c.loop-c.invariant c.loop-c-test.true c.end_at-a.result c.end_at-a.ensures in
    let lower : let arg = c.args in Reach arg.grid.terrain.cells.now arg.grid.masks.now (arg.up + arg.grid.terrain.width) (arg.up + arg.grid.terrain.width + arg.grid.terrain.width) arg.queue.now (c.loop-c.c + arg.grid.terrain.width) c.end_at-b.result = lower-reach c.loop-c.invariant c.loop-c-test.true c.end_at-b.result c.end_at-b.ensures in
    southing_goes_on c.loop-c.invariant c.loop-c-test.true upper lower c.min-e.ensures c.join_overlap.ensures

pub returns : goal.returns
returns c = southing_ends c.loop-c.invariant c.loop-c-test.false
