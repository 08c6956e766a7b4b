-- `Map::write` meets its contract: nothing is put before the sides, the cells, the lists and the room are known. Assumes nothing.
use Rattle.std.proofs.Common.{rules}
use Rattle.byte_writer.specs.Chains.{put_left}
use Rattle.refusals.proofs.Steps.{holds}
use Rattle.sheet.proofs.Passed.{passed, refuses, answer_as}
use Rattle.sheet_writer.specs.Contract.{stated}
use Rattle.map_sheets.specs.Writing.{stating}
use Rattle.sheet_writer.proofs.Answering.{writes_1, writes_2, writes_3, writes_10, writes_0}
use Rattle.sheet_writer.proofs.Map.write.Goals as goal

pub returns-in_err-ensure : goal.returns-in_err-ensure
unfolding stating
returns-in_err-ensure c =
    let r = refuses 1 _ _ c.in_err-ensure.ensures in
    rw (passed _ c.from_residual.ensures.1, answer_as 1 _ r.1) (writes_1 (stated c.args.self) _ c.sides_fit.ensures r.0)

pub returns-in_err-ensure-2 : goal.returns-in_err-ensure-2
unfolding stating
returns-in_err-ensure-2 c =
    let r = refuses 2 _ _ c.in_err-ensure-2.ensures in
    rw (passed _ c.from_residual-in_err-ensure-2.ensures.1, answer_as 2 _ r.1)
    (writes_2 (stated c.args.self) _ c.sides_fit.ensures (holds 1 _ c.in_ok-ensure.ensures) c.cells_fit.ensures r.0)

pub returns-in_err-ensure-3 : goal.returns-in_err-ensure-3
unfolding stating
returns-in_err-ensure-3 c =
    let r = refuses 3 _ _ c.in_err-ensure-3.ensures in
    rw (passed _ c.from_residual-in_err-ensure-3.ensures.1, answer_as 3 _ r.1)
    (writes_3 (stated c.args.self) _ c.sides_fit.ensures (holds 1 _ c.in_ok-ensure.ensures) c.cells_fit.ensures (holds 2 _ c.in_ok-ensure-2.ensures)
    c.are_whole.ensures r.0)

pub returns-in_err-ensure-4 : goal.returns-in_err-ensure-4
unfolding stating
returns-in_err-ensure-4 c =
    let r = refuses 10 _ _ c.in_err-ensure-4.ensures in
    rw (passed _ c.from_residual-in_err-ensure-4.ensures.1, answer_as 10 _ r.1)
    (writes_10 (stated c.args.self) _ c.sides_fit.ensures (holds 1 _ c.in_ok-ensure.ensures) c.cells_fit.ensures (holds 2 _ c.in_ok-ensure-2.ensures)
    c.are_whole.ensures (holds 3 _ c.in_ok-ensure-3.ensures) c.fits.ensures r.0)

pub returns : goal.returns
unfolding stating
returns c =
    writes_0 (stated c.args.self) _ c.sides_fit.ensures (holds 1 _ c.in_ok-ensure.ensures) c.cells_fit.ensures (holds 2 _ c.in_ok-ensure-2.ensures)
    c.are_whole.ensures (holds 3 _ c.in_ok-ensure-3.ensures) c.fits.ensures (holds 10 _ c.in_ok-ensure-4.ensures) (put_left c.put.ensures (search rules))
