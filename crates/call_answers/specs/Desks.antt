-- What C's answer to a call of two desks is made of, and which desk goes first, as C tells it. Definitions only; assumes nothing.
use Rattle.std.specs.Prelude.{ℕ, cond, eqb}
use Rattle.refusals.specs.Answers.{answer_of}
use Rattle.call_answers.specs.declared.desk_answers.DesksKept.{DesksKept}
use Rattle.call_answers.specs.declared.desk_answers.DesksAnswer.{DesksAnswer}
use Rattle.call_answers.specs.declared.desk_answers.DeskOrder.{DeskOrder}
use Rattle.call_answers.specs.declared.desk_answers.DeskOrder.TheVariants.{RouteFirst, CoachingFirst}

abbrev pub order_of : ℕ → DeskOrder
order_of n = cond (eqb n 0) RouteFirst CoachingFirst

-- what C is given of both results
abbrev pub desks_answer : DesksKept → DesksAnswer
desks_answer r =
    record {
      route = record { number = (answer_of r.route).number; value = (answer_of r.route).value };
      coaching = record { number = (answer_of r.coaching).number; value = (answer_of r.coaching).value };
    }
