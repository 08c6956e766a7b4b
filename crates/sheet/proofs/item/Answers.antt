-- `sheet::item` meets its contract: each answer is what `up_to` gives after the outcome of `number`. Assumes nothing.
use Rattle.sheet.proofs.Items.{up_to-allowed, up_to-over, up_to-failed}
use Rattle.sheet.proofs.Passed.{passed}
use Rattle.sheet.proofs.item.Goals as goal

pub returns-in_err-read : goal.returns-in_err-read
returns-in_err-read c = rw (passed _ c.from_residual.ensures.1) (up_to-failed _ _ _ c.in_err-read.ensures)

pub returns-then-most-read : goal.returns-then-most-read
returns-then-most-read c = up_to-over _ _ _ c.in_ok-read.ensures c.if-most-read.true

pub returns : goal.returns
returns c = up_to-allowed _ _ _ c.in_ok-read.ensures c.if-most-read.false
