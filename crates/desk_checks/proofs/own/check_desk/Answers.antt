-- `desk_checks::own::check_desk` meets its contract: each test is a check's own, and where one refuses, those before it did not. Assumes nothing.
use Rattle.std.proofs.Common.{rules, sym, ◌≡◌, ◌∙◌}
use Rattle.std.specs.Prelude.{Some}
use Rattle.refusals.specs.Refusals.{refusal_in, refusal_of}
use Rattle.refusals.proofs.Steps.{here, next, ensured}
use Rattle.desks.specs.Desks.{own_refusal}
use Rattle.desk_checks.proofs.own.check_desk.Goals as goal

pub returns-in_err-ensure-clause-refused : goal.returns-in_err-ensure-clause-refused
unfolding own_refusal
returns-in_err-ensure-clause-refused c =
    let r : refusal_in c.from_residual.result ≡ Some (refusal_of c.in_err-ensure.field-0.0) = search rules in
    r ∙ here _ (ensured 3 c.are_whole-whole.ensures c.in_err-ensure.ensures)

pub returns-in_err-pass-clause-refused : goal.returns-in_err-pass-clause-refused
unfolding own_refusal
returns-in_err-pass-clause-refused c =
    let r : refusal_in c.from_residual-in_err-pass.result ≡ Some (refusal_of c.in_err-pass.field-0.0) = search rules in
    r ∙ next (ensured 3 c.are_whole-whole.ensures c.in_ok-ensure.ensures) (here _ (sym c.in_err-pass.ensures.0))

pub returns-in_err-check_places-clause-refused : goal.returns-in_err-check_places-clause-refused
unfolding own_refusal
returns-in_err-check_places-clause-refused c =
    let r : refusal_in c.from_residual-in_err-check_places.result ≡ Some (refusal_of c.in_err-check_places.field-0.0) = search rules in
    r ∙ next (ensured 3 c.are_whole-whole.ensures c.in_ok-ensure.ensures) (next (sym c.in_ok-pass.ensures.0) c.in_err-check_places.ensures)

pub returns-clause-refused : goal.returns-clause-refused
unfolding own_refusal
returns-clause-refused c =
    next (ensured 3 c.are_whole-whole.ensures c.in_ok-ensure.ensures) (next (sym c.in_ok-pass.ensures.0) c.in_ok-check_places.ensures)
