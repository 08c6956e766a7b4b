-- `pool::maps_of_day` meets its contract: the checks in their order, and then the listing. Assumes nothing.
use Rattle.std.proofs.Common.{rules, length, ◌/◌, ◌≡◌, sym, ap, ◌∙◌}
use Rattle.std.specs.Prelude.{Err}
use Rattle.std.specs.Option.{ok_or}
use Rattle.std.specs.Result.{result_ok}
use Rattle.refusals.specs.declared.Cause.TheVariants as cause
use Rattle.refusals.specs.declared.Refusal as code
use Rattle.refusals.specs.Refusals.{refusal_in}
use Rattle.refusals.specs.Answers.{answer_of}
use Rattle.pool.proofs.Verdicts.{lists-refused, day-refused, day-listed, terms_fine}
use Rattle.pool.proofs.maps_of_day.Goals as goal

pub returns-in_err-check_lists-clause-answer : goal.returns-in_err-check_lists-clause-answer
returns-in_err-check_lists-clause-answer c =
    let given : c.from_residual.result ≡ Err c.in_err-check_lists.field-0.0 = search rules in
    ap answer_of given ∙ lists-refused _ _ _ _ (sym (ap refusal_in c.in_err-check_lists.was) ∙ c.check_lists.ensures)

pub list_day-requires : goal.list_day-requires
list_day-requires c = terms_fine _ _ (sym c.check_lists.ensures ∙ ap refusal_in c.in_ok-check_lists.was)

pub returns-in_err-day-clause-answer : goal.returns-in_err-day-clause-answer
returns-in_err-day-clause-answer c =
    let bad : code.Refusal = record { cause = cause.Date; place = length c.args.terms.now / 7 } in
    let none = c.ok_or.ensures.ok_part ∙ ap result_ok c.in_err-day.was in
    let given : c.from_residual-in_err-day.result ≡ Err c.in_err-day.field-0.0 = search rules in
    let refused : c.from_residual-in_err-day.result ≡ Err bad = given ∙ sym c.in_err-day.was ∙ c.ok_or.ensures.value ∙ ap (λ o. ok_or o bad) none in
    ap answer_of refused ∙ day-refused _ _ _ _ (sym (ap refusal_in c.in_ok-check_lists.was) ∙ c.check_lists.ensures) (sym none ∙ c.day_of.ensures)

pub returns-clause-answer : goal.returns-clause-answer
returns-clause-answer c =
    let day = sym (c.ok_or.ensures.ok_part ∙ ap result_ok c.in_ok-day.was) ∙ c.day_of.ensures in
    c.list_day.ensures.answer ∙ day-listed _ _ _ _ (sym (ap refusal_in c.in_ok-check_lists.was) ∙ c.check_lists.ensures) day
