-- `sheet::opening` meets its contract: the kind is 1 or 3 and the pass follows, or the first of the two that is not so is the fault. Assumes nothing.
use Rattle.std.proofs.Common.{rules}
use Rattle.laws.specs.SheetReading.SheetLaws.{keeps-number, ends-inside}
use Rattle.sheet.proofs.Passed.{passed}
use Rattle.sheet.proofs.Chains.{allowed, opening-found, pass-fails, opening-other, opening-fails}
use Rattle.sheet.proofs.opening.Goals as goal

pub returns-in_err-number : goal.returns-in_err-number
returns-in_err-number c = rw (passed _ c.from_residual.ensures.1) (opening-fails 0 _ c.in_err-number.ensures)

pub returns-in_err-kind : goal.returns-in_err-kind
returns-in_err-kind c =
    let faulty = c.in_err-kind.ensures in
    rw (passed _ c.from_residual-in_err-kind.ensures.1, faulty.1) (opening-other 0 _ c.in_ok-number.ensures faulty.0)

pub number_at-requires-2 : goal.number_at-requires-2
number_at-requires-2 c = ends-inside keeps-number _ 0 (search rules) c.in_ok-number.ensures

pub returns-in_err-pass : goal.returns-in_err-pass
returns-in_err-pass c =
    rw (passed _ c.from_residual-in_err-pass.ensures.1)
    (pass-fails 0 _ c.in_ok-number.ensures (allowed _ c.in_ok-kind.ensures) c.in_err-pass.ensures)

pub returns : goal.returns
returns c = rw c.in_ok-kind.ensures (opening-found 0 _ c.in_ok-number.ensures (allowed _ c.in_ok-kind.ensures) c.in_ok-pass.ensures)
