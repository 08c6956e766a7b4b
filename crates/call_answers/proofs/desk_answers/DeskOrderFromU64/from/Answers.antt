-- `call_answers::desk_answers::DeskOrderFromU64::from` meets its contract, by the search; written so that a wrong body is refused sooner. Assumes nothing.
use Rattle.std.proofs.Common.{rules}
use Rattle.call_answers.proofs.desk_answers.DeskOrderFromU64.from.Goals as goal

pub returns-in-0 : goal.returns-in-0
returns-in-0 c = search rules

pub returns-in_default : goal.returns-in_default
returns-in_default c = search rules
