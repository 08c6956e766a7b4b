-- `sheet::SheetLists::have_room` meets its contract, by the search; written so that a wrong body is refused sooner. Assumes nothing.
use Rattle.std.proofs.Common.{rules}
use Rattle.sheet.proofs.SheetLists.have_room.Goals as goal

pub returns-then-parts-self-2 : goal.returns-then-parts-self-2
returns-then-parts-self-2 c = search rules
