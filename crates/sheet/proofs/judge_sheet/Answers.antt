-- `sheet::judge_sheet` meets its contract: the three parts follow one another, and the first that is refused is the answer. Assumes nothing.
use Rattle.sheet.proofs.Passed.{passed}
use Rattle.sheet.proofs.Chains.{sheet-opening, sheet-sides, sheet-lists}
use Rattle.sheet.proofs.PartsFound.{opening-inside, sides-inside, sheet-found}
use Rattle.sheet.proofs.judge_sheet.Goals as goal

pub returns-in_err-opening : goal.returns-in_err-opening
returns-in_err-opening c = rw (passed _ c.from_residual.ensures.1) (sheet-opening _ _ c.in_err-opening.ensures)

pub sides-requires : goal.sides-requires
sides-requires c = opening-inside _ c.in_ok-opening.ensures

pub returns-in_err-sides : goal.returns-in_err-sides
returns-in_err-sides c = rw (passed _ c.from_residual-in_err-sides.ensures.1) (sheet-sides _ _ c.in_ok-opening.ensures c.in_err-sides.ensures)

pub lists-requires : goal.lists-requires
lists-requires c = sides-inside _ _ (opening-inside _ c.in_ok-opening.ensures) c.in_ok-sides.ensures

pub returns-in_err-parts : goal.returns-in_err-parts
returns-in_err-parts c =
    rw (passed _ c.from_residual-in_err-parts.ensures.1) (sheet-lists _ _ c.in_ok-opening.ensures c.in_ok-sides.ensures c.in_err-parts.ensures)

pub returns : goal.returns
returns c = sheet-found _ _ c.in_ok-opening.ensures c.in_ok-sides.ensures c.in_ok-parts.ensures
