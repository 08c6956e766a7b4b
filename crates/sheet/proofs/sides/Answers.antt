-- `sheet::sides` meets its contract: both sides are read before either is judged, and the first number that is not read is the fault. Assumes nothing.
use Rattle.std.proofs.Common.{sym, ◌∙◌}
use Rattle.laws.specs.SheetReading.SheetLaws.{keeps-number, ends-inside}
use Rattle.refusals.proofs.Steps.{holds}
use Rattle.sheet.proofs.Passed.{passed, refuses, failure_of}
use Rattle.sheet.proofs.Chains.{width-fails, height-fails, area-allowed, area-fails}
use Rattle.sheet.proofs.sides.Goals as goal

pub returns-in_err-width : goal.returns-in_err-width
returns-in_err-width c = rw (passed _ c.from_residual.ensures.1) (width-fails _ _ _ c.in_err-width.ensures)

pub number_at-requires-2 : goal.number_at-requires-2
number_at-requires-2 c = ends-inside keeps-number _ _ c.requires c.in_ok-width.ensures

pub returns-in_err-height : goal.returns-in_err-height
returns-in_err-height c =
    rw (passed _ c.from_residual-in_err-height.ensures.1) (height-fails _ _ _ c.in_ok-width.ensures c.in_err-height.ensures)

pub returns-in_err-ensure : goal.returns-in_err-ensure
returns-in_err-ensure c =
    let over = refuses 1 _ _ c.in_err-ensure.ensures in
    rw (passed _ c.from_residual-in_err-ensure.ensures.1)
    (area-fails _ _ _ c.in_ok-width.ensures c.in_ok-height.ensures (sym c.area_allowed.ensures ∙ over.0) ∙ failure_of 1 _ over.1)

pub returns : goal.returns
returns c =
    area-allowed _ _ _ c.in_ok-width.ensures c.in_ok-height.ensures (sym c.area_allowed.ensures ∙ holds 1 _ c.in_ok-ensure.ensures)
