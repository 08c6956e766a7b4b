-- `sheet::entries` meets its contract: the count is judged before its entries are. Assumes nothing.
use mathlib.Core.Path.{◌∙◌}
use borrow.Author.Tests.{leb-true, leb-false}
use Rattle.laws.specs.SheetReading.SheetLaws.{keeps-number, ends-inside}
use Rattle.refusals.proofs.Steps.{holds}
use Rattle.sheet.proofs.Passed.{passed, refuses, failure_of}
use Rattle.sheet.proofs.Chains.{count-fails, count-over}
use Rattle.sheet.proofs.PartsFound.{entries-found, entries_faulty}
use Rattle.sheet.proofs.entries.Goals as goal

pub returns-in_err-count : goal.returns-in_err-count
returns-in_err-count c = rw (passed _ c.from_residual.ensures.1) (count-fails _ _ _ c.in_err-count.ensures)

pub returns-in_err-ensure : goal.returns-in_err-ensure
returns-in_err-ensure c =
    let over = refuses 3 _ _ c.in_err-ensure.ensures in
    rw (passed _ c.from_residual-in_err-ensure.ensures.1) (count-over _ _ _ c.in_ok-count.ensures (leb-false _ _ over.0) ∙ failure_of 3 _ over.1)

pub judge-requires : goal.judge-requires
judge-requires c = ends-inside keeps-number _ _ c.requires.0 c.in_ok-count.ensures

pub returns-in_err-next : goal.returns-in_err-next
returns-in_err-next c =
    rw (passed _ c.from_residual-in_err-next.ensures.1)
    (entries_faulty _ _ _ c.in_ok-count.ensures (leb-true _ _ (holds 3 _ c.in_ok-ensure.ensures)) _ c.in_err-next.ensures)

pub returns : goal.returns
returns c = entries-found _ _ _ c.in_ok-count.ensures (leb-true _ _ (holds 3 _ c.in_ok-ensure.ensures)) c.requires.0 c.in_ok-next.ensures
