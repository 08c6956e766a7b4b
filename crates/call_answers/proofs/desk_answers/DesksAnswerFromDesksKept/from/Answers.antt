-- `call_answers::desk_answers::DesksAnswerFromDesksKept::from` meets its contract, by the search; written so that a wrong body is refused sooner. Assumes nothing.
use Rattle.std.proofs.Common.{rules}
use Rattle.call_answers.proofs.desk_answers.DesksAnswerFromDesksKept.from.Goals as goal

pub returns : goal.returns
returns c = search rules
