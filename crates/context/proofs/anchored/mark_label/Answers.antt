-- `context::anchored::mark_label` meets its contract, by the search; written so that a wrong body is refused sooner. Assumes nothing.
use Rattle.std.proofs.Common.{rules}
use Rattle.context.proofs.anchored.mark_label.Goals as goal

pub returns-then-label-ne0 : goal.returns-then-label-ne0
returns-then-label-ne0 c = search rules
