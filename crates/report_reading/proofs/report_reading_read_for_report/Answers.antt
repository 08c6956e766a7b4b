-- `report_reading_read_for_report` meets its contract: where there is room the sheet is read into what was lent; beyond, nothing is touched. Assumes nothing.
use Rattle.report_reading.proofs.Opening.{read-within, read-beyond}
use Rattle.report_reading.proofs.report_reading_read_for_report.Goals as goal

pub returns-then-has_room : goal.returns-then-has_room
returns-then-has_room c =
    read-within c.args.report _ c.has_room.ensures c.if-has_room.true c.read_sheet-answer.ensures c.opened_for.ensures

pub returns-else-has_room : goal.returns-else-has_room
returns-else-has_room c =
    read-beyond c.args.report _ c.has_room.ensures c.if-has_room.false c.new.ensures
