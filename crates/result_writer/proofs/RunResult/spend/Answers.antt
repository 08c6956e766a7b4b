-- `result_writer::RunResult::spend` meets its contract: what is left of the room, part by part. Assumes nothing.
use Rattle.std.proofs.Common.{refl}
use Rattle.std.specs.Prelude.{Some}
use Rattle.result_writer.specs.Contract.{result_of}
use Rattle.result_writer.proofs.Spending.{spent_none, spent-behind, sheet-spent}
use Rattle.result_writer.proofs.RunResult.spend.Goals as goal

pub returns-in_err-left : goal.returns-in_err-left
returns-in_err-left c =
    rw c.from_residual.ensures
    (sheet-spent (result_of c.args.self) (Some c.args.room) c.spend_number.ensures (spent_none _ c.in_err-left.was) (spent_none _ refl)
    (spent_none _ refl) (spent_none _ refl) (spent_none _ refl))

pub returns-in_err-left-2 : goal.returns-in_err-left-2
returns-in_err-left-2 c =
    rw c.from_residual-in_err-left-2.ensures
    (sheet-spent (result_of c.args.self) (Some c.args.room) c.spend_number.ensures (spent-behind _ c.in_ok-left.was c.spend_number-2.ensures) (spent_none _ c.in_err-left-2.was)
    (spent_none _ refl) (spent_none _ refl) (spent_none _ refl))

pub returns-in_err-left-3 : goal.returns-in_err-left-3
returns-in_err-left-3 c =
    rw c.from_residual-in_err-left-3.ensures
    (sheet-spent (result_of c.args.self) (Some c.args.room) c.spend_number.ensures (spent-behind _ c.in_ok-left.was c.spend_number-2.ensures) (spent-behind _ c.in_ok-left-2.was c.spend_list.ensures)
    (spent_none _ c.in_err-left-3.was) (spent_none _ refl) (spent_none _ refl))

pub returns-in_err-left-4 : goal.returns-in_err-left-4
returns-in_err-left-4 c =
    rw c.from_residual-in_err-left-4.ensures
    (sheet-spent (result_of c.args.self) (Some c.args.room) c.spend_number.ensures (spent-behind _ c.in_ok-left.was c.spend_number-2.ensures) (spent-behind _ c.in_ok-left-2.was c.spend_list.ensures)
    (spent-behind _ c.in_ok-left-3.was c.spend_list-2.ensures) (spent_none _ c.in_err-left-4.was) (spent_none _ refl))

pub returns-in_err-left-5 : goal.returns-in_err-left-5
returns-in_err-left-5 c =
    rw c.from_residual-in_err-left-5.ensures
    (sheet-spent (result_of c.args.self) (Some c.args.room) c.spend_number.ensures (spent-behind _ c.in_ok-left.was c.spend_number-2.ensures) (spent-behind _ c.in_ok-left-2.was c.spend_list.ensures)
    (spent-behind _ c.in_ok-left-3.was c.spend_list-2.ensures) (spent-behind _ c.in_ok-left-4.was c.spend_list-3.ensures) (spent_none _ c.in_err-left-5.was))

pub returns : goal.returns
returns c =
    sheet-spent (result_of c.args.self) (Some c.args.room) c.spend_number.ensures (spent-behind _ c.in_ok-left.was c.spend_number-2.ensures) (spent-behind _ c.in_ok-left-2.was c.spend_list.ensures)
    (spent-behind _ c.in_ok-left-3.was c.spend_list-2.ensures) (spent-behind _ c.in_ok-left-4.was c.spend_list-3.ensures) (spent-behind _ c.in_ok-left-5.was c.spend_list-4.ensures)
