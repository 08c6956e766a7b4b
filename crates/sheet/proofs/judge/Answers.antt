-- `sheet::judge` meets its contract. The loop's invariant is `Judging`: how the numbers that are left are read tells how all of them are. Assumes nothing.
use Rattle.sheet.proofs.Items.{keeps-up_to}
use Rattle.sheet.proofs.Judging.{judging_ends, judging_stops, judging_goes_on}
use Rattle.sheet.proofs.Passed.{passed}
use Rattle.sheet.proofs.judge.Goals as goal

pub returns-in_err-next : goal.returns-in_err-next
returns-in_err-next c = rw (passed _ c.from_residual.ensures.1) (judging_stops c.loop.invariant c.loop-test.true _ c.in_err-next.ensures)

pub loop-preserved : goal.loop-preserved
loop-preserved c = judging_goes_on c.loop.invariant c.loop-test.true (keeps-up_to _) c.in_ok-next.ensures

pub returns : goal.returns
returns c = judging_ends c.loop.invariant c.loop-test.false
