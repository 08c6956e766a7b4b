-- `sheet_writer::Map::spend` meets its contract: what is left of the room, part by part. Assumes nothing.
use Rattle.std.proofs.Common.{refl}
use Rattle.std.specs.Prelude.{Some}
use Rattle.result_writer.proofs.Spending.{spent_none, spent-behind}
use Rattle.sheet_writer.proofs.Parts.{sheet-spent}
use Rattle.sheet_writer.proofs.Map.spend.Goals as goal

pub returns-in_err-left : goal.returns-in_err-left
returns-in_err-left c =
    let map = c.args.self in
    rw c.from_residual.ensures
    (sheet-spent map.pass map.width map.height map.cells.now map.boundaries.now map.anchors.now (Some c.args.room) c.spend_number.ensures
    (spent_none _ c.in_err-left.was) (spent_none _ refl) (spent_none _ refl)
    (spent_none _ refl) (spent_none _ refl) (spent_none _ refl))

pub returns-in_err-left-2 : goal.returns-in_err-left-2
returns-in_err-left-2 c =
    let map = c.args.self in
    rw c.from_residual-in_err-left-2.ensures
    (sheet-spent map.pass map.width map.height map.cells.now map.boundaries.now map.anchors.now (Some c.args.room) c.spend_number.ensures
    (spent-behind _ c.in_ok-left.was c.spend_number-2.ensures) (spent_none _ c.in_err-left-2.was) (spent_none _ refl)
    (spent_none _ refl) (spent_none _ refl) (spent_none _ refl))

pub returns-in_err-left-3 : goal.returns-in_err-left-3
returns-in_err-left-3 c =
    let map = c.args.self in
    rw c.from_residual-in_err-left-3.ensures
    (sheet-spent map.pass map.width map.height map.cells.now map.boundaries.now map.anchors.now (Some c.args.room) c.spend_number.ensures
    (spent-behind _ c.in_ok-left.was c.spend_number-2.ensures) (spent-behind _ c.in_ok-left-2.was c.spend_number-3.ensures) (spent_none _ c.in_err-left-3.was)
    (spent_none _ refl) (spent_none _ refl) (spent_none _ refl))

pub returns-in_err-left-4 : goal.returns-in_err-left-4
returns-in_err-left-4 c =
    let map = c.args.self in
    rw c.from_residual-in_err-left-4.ensures
    (sheet-spent map.pass map.width map.height map.cells.now map.boundaries.now map.anchors.now (Some c.args.room) c.spend_number.ensures
    (spent-behind _ c.in_ok-left.was c.spend_number-2.ensures) (spent-behind _ c.in_ok-left-2.was c.spend_number-3.ensures) (spent-behind _ c.in_ok-left-3.was c.spend_number-4.ensures)
    (spent_none _ c.in_err-left-4.was) (spent_none _ refl) (spent_none _ refl))

pub returns-in_err-left-5 : goal.returns-in_err-left-5
returns-in_err-left-5 c =
    let map = c.args.self in
    rw c.from_residual-in_err-left-5.ensures
    (sheet-spent map.pass map.width map.height map.cells.now map.boundaries.now map.anchors.now (Some c.args.room) c.spend_number.ensures
    (spent-behind _ c.in_ok-left.was c.spend_number-2.ensures) (spent-behind _ c.in_ok-left-2.was c.spend_number-3.ensures) (spent-behind _ c.in_ok-left-3.was c.spend_number-4.ensures)
    (spent-behind _ c.in_ok-left-4.was c.spend_numbers.ensures) (spent_none _ c.in_err-left-5.was) (spent_none _ refl))

pub returns-in_err-left-6 : goal.returns-in_err-left-6
returns-in_err-left-6 c =
    let map = c.args.self in
    rw c.from_residual-in_err-left-6.ensures
    (sheet-spent map.pass map.width map.height map.cells.now map.boundaries.now map.anchors.now (Some c.args.room) c.spend_number.ensures
    (spent-behind _ c.in_ok-left.was c.spend_number-2.ensures) (spent-behind _ c.in_ok-left-2.was c.spend_number-3.ensures) (spent-behind _ c.in_ok-left-3.was c.spend_number-4.ensures)
    (spent-behind _ c.in_ok-left-4.was c.spend_numbers.ensures) (spent-behind _ c.in_ok-left-5.was c.spend_list.ensures) (spent_none _ c.in_err-left-6.was))

pub returns : goal.returns
returns c =
    let map = c.args.self in
    sheet-spent map.pass map.width map.height map.cells.now map.boundaries.now map.anchors.now (Some c.args.room) c.spend_number.ensures
    (spent-behind _ c.in_ok-left.was c.spend_number-2.ensures) (spent-behind _ c.in_ok-left-2.was c.spend_number-3.ensures) (spent-behind _ c.in_ok-left-3.was c.spend_number-4.ensures)
    (spent-behind _ c.in_ok-left-4.was c.spend_numbers.ensures) (spent-behind _ c.in_ok-left-5.was c.spend_list.ensures) (spent-behind _ c.in_ok-left-6.was c.spend_list-2.ensures)
