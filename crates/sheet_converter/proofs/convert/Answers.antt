-- `sheet_converter::convert` meets its contract: the kind first, then what the reader judges, then the sheet that was found. Assumes nothing.
use mathlib.Core.Path.{sym, ◌∙◌}
use borrow.Author.Tests.{not-true, not-false}
use Rattle.refusals.proofs.Steps.{holds}
use Rattle.sheet.proofs.Passed.{passed, refuses, answer_as}
use Rattle.sheet_converter.proofs.FirstNumber.{opened_1}
use Rattle.sheet_converter.proofs.Answering.{converts_other, converts_plan, converts_refused}
use Rattle.sheet_converter.proofs.convert.Goals as goal

pub returns-in_err-ensure : goal.returns-in_err-ensure
returns-in_err-ensure c =
    let r = refuses 14 _ _ c.in_err-ensure.ensures in
    rw (passed _ c.from_residual.ensures.1, answer_as 14 _ r.1)
    (converts_other c.args.bytes.now c.args.out.now (sym c.is_other_kind.ensures ∙ not-false _ r.0))

pub returns-in_err-plan : goal.returns-in_err-plan
returns-in_err-plan c =
    rw (passed _ c.from_residual-in_err-plan.ensures.1) (converts_refused c.args.bytes.now c.args.out.now (sym c.is_other_kind.ensures ∙ not-true _ (holds 14 _ c.in_ok-ensure.ensures)) c.in_err-plan.ensures)

pub convert_plan-requires : goal.convert_plan-requires
convert_plan-requires c =
    let held = c.in_ok-plan.ensures in
    record {
      held = held;
      old = opened_1 c.args.bytes.now held.stands.opened (sym c.is_other_kind.ensures ∙ not-true _ (holds 14 _ c.in_ok-ensure.ensures));
    }

pub returns : goal.returns
returns c =
    let held = c.in_ok-plan.ensures in
    converts_plan c.args.bytes.now c.args.out.now (sym c.is_other_kind.ensures ∙ not-true _ (holds 14 _ c.in_ok-ensure.ensures)) _ held.same c.convert_plan.ensures
