-- `sheet_writer::Map::fits` meets its contract: the room is enough where something or nothing is left of it. Assumes nothing.
use Rattle.std.proofs.Common.{◌∙◌, length}
use Rattle.map_sheets.specs.SheetBytes.{sheet_bytes}
use Rattle.result_writer.proofs.Spending.{has_room}
use Rattle.sheet_writer.specs.Contract.{stated}
use Rattle.sheet_writer.proofs.Map.fits.Goals as goal

pub returns : goal.returns
returns c = c.is_some.ensures ∙ has_room c.args.room (length (sheet_bytes 3 (stated c.args.self))) c.spend.ensures
