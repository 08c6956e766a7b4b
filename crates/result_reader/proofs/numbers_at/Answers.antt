-- `result_reader::numbers_at` meets its contract. The loop's invariant is `Reading`. Assumes nothing.
use lib.ListN.{length-replicate}
use Rattle.sheet.proofs.Passed.{passed}
use Rattle.result_reader.proofs.Numbers.{reading_starts, reading_goes_on, reading_fails}
use Rattle.result_reader.proofs.numbers_at.Goals as goal

pub loop-number-init : goal.loop-number-init
loop-number-init g c = reading_starts _ _ _ _ (length-replicate g.row.N 0) c.requires

pub returns-in_err-read : goal.returns-in_err-read
returns-in_err-read g c = rw (passed _ c.from_residual.ensures.1) (reading_fails c.loop-number.invariant c.loop-number-test.true c.in_err-read.ensures)

pub loop-number-preserved : goal.loop-number-preserved
loop-number-preserved g c = reading_goes_on c.loop-number.invariant c.loop-number-test.true c.in_ok-read.ensures
