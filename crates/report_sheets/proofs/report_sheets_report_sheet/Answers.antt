-- `report_sheets_report_sheet` meets its contract, by how many runs there are. Assumes nothing.
use Rattle.report_sheets.proofs.Sheets.{within-room, no_room}
use Rattle.report_sheets.proofs.report_sheets_report_sheet.Goals as goal

pub returns-then-has_room : goal.returns-then-has_room
returns-then-has_room c =
    within-room c.args.report _ c.has_room.ensures c.if-has_room.true c.add_sheet.ensures

pub returns-else-has_room : goal.returns-else-has_room
returns-else-has_room c =
    no_room c.args.report _ c.has_room.ensures c.if-has_room.false c.beyond.ensures
