-- `cut_steps::cell::column_word` meets its contract, by the search; written so that a wrong body is refused sooner. Assumes nothing.
use Rattle.std.proofs.Common.{rules}
use Rattle.cut_steps.proofs.cell.column_word.Goals as goal

pub returns-in-2 : goal.returns-in-2
returns-in-2 c = search rules
