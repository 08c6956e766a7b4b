-- What C's answer to a run to rest says, and what its result does. Definitions only; assumes nothing.
use Rattle.std.specs.Prelude.{Result, Ok, Err}
use Rattle.rest_definitions.specs.RestVerdict as def
use Rattle.refusals.specs.declared.Refusal.{Refusal}
use Rattle.refusals.specs.Refusals.{number_of}
use Rattle.call_answers.specs.declared.rest_answers.RestKept.{RestKept}
use Rattle.call_answers.specs.declared.rest_answers.RestAnswer.{RestAnswer}

abbrev pub rest_answer : RestAnswer → def.RestAnswer
rest_answer a = record { number = a.number; value = a.value; rounds = a.rounds }

abbrev pub rest_answer_of : Result RestKept Refusal → def.RestAnswer
rest_answer_of (Ok x) = record { number = 0; value = x.kept; rounds = x.rounds }
rest_answer_of (Err r) = record { number = number_of r.cause; value = r.place; rounds = 0 }
