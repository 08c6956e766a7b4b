-- `refusals::answers::AnswerFromResultUsizeRefusal::from` meets its contract, by the search; written so that a wrong body is refused sooner. Assumes nothing.
use Rattle.std.proofs.Common.{rules}
use Rattle.refusals.proofs.answers.AnswerFromResultUsizeRefusal.from.Goals as goal

pub returns-in-Ok : goal.returns-in-Ok
returns-in-Ok c = search rules
