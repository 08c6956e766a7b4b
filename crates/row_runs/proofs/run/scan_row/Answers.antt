-- `row_runs::run::scan_row` meets its contract. The loop's invariant is `Scanning`; the measure is how many cells are left. Assumes nothing.
use Rattle.row_runs.proofs.RowNames.{scanning_starts, scanning_goes_on, scanning_ends, put-asked}
use Rattle.row_runs.proofs.run.scan_row.Goals as goal

pub loop-c-init : goal.loop-c-init
loop-c-init c = scanning_starts _ _ _ _ _ _ c.requires.run.low

pub put_stretch-requires : goal.put_stretch-requires
put_stretch-requires c =
    put-asked c.loop-c.invariant c.requires c.stretch_end-e.ensures

pub loop-c-preserved : goal.loop-c-preserved
loop-c-preserved c =
    scanning_goes_on c.loop-c.invariant c.loop-c-test.true c.requires.queue_long_lem c.stretch_end-e.ensures c.put_stretch.ensures

pub returns : goal.returns
returns c = scanning_ends c.loop-c.invariant c.loop-c-test.false
