-- `jenwyllt::JenwylltSheetFromResultHeaderRefusal::from` meets its contract, by the search; written so that a wrong body is refused sooner. Assumes nothing.
use Rattle.std.proofs.Common.{rules}
use Rattle.jenwyllt.proofs.JenwylltSheetFromResultHeaderRefusal.from.Goals as goal

pub returns-in-Err : goal.returns-in-Err
returns-in-Err c = search rules
