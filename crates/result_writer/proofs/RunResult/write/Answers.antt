-- `RunResult::write` meets its contract: nothing is put before the rules, the last entries and the room are known. Assumes nothing.
use Rattle.std.proofs.Common.{rules}
use Rattle.byte_writer.specs.Chains.{put_left}
use Rattle.refusals.proofs.Steps.{holds}
use Rattle.sheet.proofs.Passed.{passed, refuses, answer_as}
use Rattle.result_writer.proofs.Answering.{writes_15, writes_3, writes_10, writes_0}
use Rattle.result_writer.proofs.RunResult.write.Goals as goal

pub returns-in_err-ensure : goal.returns-in_err-ensure
returns-in_err-ensure c =
    let r = refuses 15 _ _ c.in_err-ensure.ensures in
    rw (passed _ c.from_residual.ensures.1, answer_as 15 _ r.1) (writes_15 _ _ _ c.keeps_rules.ensures r.0)

pub returns-in_err-ensure-2 : goal.returns-in_err-ensure-2
returns-in_err-ensure-2 c =
    let r = refuses 3 _ _ c.in_err-ensure-2.ensures in
    rw (passed _ c.from_residual-in_err-ensure-2.ensures.1, answer_as 3 _ r.1)
    (writes_3 _ _ _ c.keeps_rules.ensures (holds 15 _ c.in_ok-ensure.ensures) _ c.is_finished.ensures r.0)

pub returns-in_err-ensure-3 : goal.returns-in_err-ensure-3
returns-in_err-ensure-3 c =
    let r = refuses 10 _ _ c.in_err-ensure-3.ensures in
    rw (passed _ c.from_residual-in_err-ensure-3.ensures.1, answer_as 10 _ r.1)
    (writes_10 _ _ _ c.keeps_rules.ensures (holds 15 _ c.in_ok-ensure.ensures) _ c.is_finished.ensures (holds 3 _ c.in_ok-ensure-2.ensures)
    _ c.fits.ensures r.0)

pub returns : goal.returns
returns c =
    writes_0 _ _ _ c.keeps_rules.ensures (holds 15 _ c.in_ok-ensure.ensures) _ c.is_finished.ensures (holds 3 _ c.in_ok-ensure-2.ensures)
    _ c.fits.ensures (holds 10 _ c.in_ok-ensure-3.ensures) (put_left c.put.ensures (search rules))
