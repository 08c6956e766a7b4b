-- What C's answer to a call of runner and guard says, and what its result does. Definitions only; assumes nothing.
use Rattle.std.specs.Prelude.{Result, Ok, Err}
use Rattle.game_calls.specs.GameVerdict as verdict
use Rattle.refusals.specs.declared.Refusal.{Refusal}
use Rattle.refusals.specs.Refusals.{number_of}
use Rattle.call_answers.specs.declared.game_answers.GameKept.{GameKept}
use Rattle.call_answers.specs.declared.game_answers.GameAnswer.{GameAnswer}

abbrev pub game_answer : GameAnswer → verdict.GameAnswer
game_answer a = record { number = a.number; value = a.value; regions = a.regions }

abbrev pub game_answer_of : Result GameKept Refusal → verdict.GameAnswer
game_answer_of (Ok x) = record { number = 0; value = x.kept; regions = x.regions }
game_answer_of (Err r) = record { number = number_of r.cause; value = r.place; regions = 0 }
