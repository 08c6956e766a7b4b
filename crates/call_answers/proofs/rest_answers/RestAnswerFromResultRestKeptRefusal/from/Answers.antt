-- `call_answers::rest_answers::RestAnswerFromResultRestKeptRefusal::from` meets its contract, by the search; written so that wrong bodies are refused sooner.
use Rattle.std.proofs.Common.{rules}
use Rattle.call_answers.proofs.rest_answers.RestAnswerFromResultRestKeptRefusal.from.Goals as goal

pub returns-in-Err : goal.returns-in-Err
returns-in-Err c = search rules

pub returns-in-Ok : goal.returns-in-Ok
returns-in-Ok c = search rules
