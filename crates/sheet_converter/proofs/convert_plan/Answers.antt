-- `sheet_converter::convert_plan` meets its contract: nothing is put before all checks and the room are known. Assumes nothing.
use native.Mathlib.Omega.{arith}
use borrow.Author.Tests.{leb-true, leb-false}
use Rattle.refusals.proofs.Steps.{holds}
use Rattle.sheet.proofs.Passed.{passed, refuses, answer_as}
use Rattle.sheet_converter.proofs.Cutting.{bytes-known, cut_is, cut-long, cut-known}
use Rattle.sheet_converter.proofs.Answering.{plan-refused, plan-short, plan-put}
use Rattle.sheet_converter.proofs.convert_plan.Goals as goal

pub returns-in_err-plan_check : goal.returns-in_err-plan_check
returns-in_err-plan_check c =
    rw (passed _ c.from_residual.ensures.1) (plan-refused c.args.bytes.now c.args.plan c.args.out.now c.in_err-plan_check.ensures)

pub returns-in_err-ensure : goal.returns-in_err-ensure
returns-in_err-ensure c =
    let r = refuses 10 _ _ c.in_err-ensure.ensures in
    rw (passed _ c.from_residual-in_err-ensure.ensures.1, answer_as 10 _ r.1)
    (plan-short c.args.bytes.now c.args.plan c.args.out.now c.in_ok-plan_check.ensures (omega (arith, leb-false _ _ r.0, cut-long (bytes-known c.args.bytes.now (λ i. omega (arith, c.shared_slice_known-1.given i))) c.requires.held c.requires.old)))

pub put_converted-requires : goal.put_converted-requires
put_converted-requires c =
    cut-known (bytes-known c.args.bytes.now (λ i. omega (arith, c.shared_slice_known-1.given i))) c.requires.held c.requires.old (leb-true _ _ (holds 10 _ c.in_ok-ensure.ensures))

pub returns : goal.returns
returns c =
    plan-put c.args.bytes.now c.args.plan c.args.out.now c.in_ok-plan_check.ensures
    (omega (arith, (leb-true _ _ (holds 10 _ c.in_ok-ensure.ensures)), cut-long (bytes-known c.args.bytes.now (λ i. omega (arith, c.shared_slice_known-1.given i))) c.requires.held c.requires.old)) (cut_is (bytes-known c.args.bytes.now (λ i. omega (arith, c.shared_slice_known-1.given i))) c.requires.held c.requires.old) c.put_converted.ensures
