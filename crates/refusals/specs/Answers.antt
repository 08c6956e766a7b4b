-- What an answer says, as the definitions have it: number 0 and a count, or a refusal's number and place. Definitions only; assumes nothing.
use Rattle.std.specs.Prelude.{ℕ, Result, Ok, Err}
use Rattle.definitions.specs.Verdict as verdict
use Rattle.refusals.specs.declared.Cause.{Cause}
use Rattle.refusals.specs.declared.Refusal.{Refusal}
use Rattle.refusals.specs.declared.answers.Answer.{Answer}
use Rattle.refusals.specs.Refusals.{number_of}

abbrev pub answer_in : Answer → verdict.Answer
answer_in r = record { number = r.number; value = r.value }

abbrev pub answer_of : Result ℕ Refusal → verdict.Answer
answer_of (Ok count) = record { number = 0; value = count }
answer_of (Err r) = record { number = number_of r.cause; value = r.place }

-- a refusal that names no place, and one that does
abbrev pub refused_by : Cause → Answer
refused_by cause = record { number = number_of cause; value = 0 }

abbrev pub refused_at : Refusal → Answer
refused_at refusal = record { number = number_of refusal.cause; value = refusal.place }
