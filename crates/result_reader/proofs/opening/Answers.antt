-- `result_reader::opening` meets its contract: the kind is 2 and the region count follows, or the first of the two that is not so is the fault. Assumes nothing.
use Rattle.std.proofs.Common.{arith, ◌∙◌}
use borrow.Author.Tests.{eqb-true, eqb-false}
use Rattle.refusals.proofs.Steps.{holds}
use Rattle.sheet.proofs.Passed.{passed, refuses, failure_of}
use Rattle.result_reader.proofs.Numbers.{item-inside}
use Rattle.result_reader.proofs.Chains.{opening-found, opening-stops, opening-other, opening-fails}
use Rattle.result_reader.proofs.opening.Goals as goal

pub returns-in_err-kind : goal.returns-in_err-kind
returns-in_err-kind c = rw (passed _ c.from_residual.ensures.1) (opening-fails _ c.in_err-kind.ensures)

pub returns-in_err-ensure : goal.returns-in_err-ensure
returns-in_err-ensure c =
    let other = refuses 14 _ _ c.in_err-ensure.ensures in
    rw (passed _ c.from_residual-in_err-ensure.ensures.1) (opening-other _ c.in_ok-kind.ensures (eqb-false _ _ other.0) ∙ failure_of 14 _ other.1)

pub number_at-requires-2 : goal.number_at-requires-2
number_at-requires-2 c = item-inside _ _ (omega arith) c.in_ok-kind.ensures

pub returns-in_err-regions : goal.returns-in_err-regions
returns-in_err-regions c = rw (passed _ c.from_residual-in_err-regions.ensures.1) (opening-stops _ c.in_ok-kind.ensures (eqb-true _ _ (holds 14 _ c.in_ok-ensure.ensures)) c.in_err-regions.ensures)

pub returns : goal.returns
returns c = opening-found _ c.in_ok-kind.ensures (eqb-true _ _ (holds 14 _ c.in_ok-ensure.ensures)) c.in_ok-regions.ensures
