-- `sheet_converter::map_check` meets its contract: the checks in their order; where one refuses, those before it did not. Assumes nothing.
use Rattle.std.proofs.Common.{rules, sym, ◌≡◌, ◌∙◌}
use Rattle.std.specs.Prelude.{Some}
use Rattle.refusals.specs.Refusals.{refusal_in, refusal_of}
use Rattle.refusals.proofs.Steps.{here, next, ensured, searched}
use Rattle.sheet_converter.specs.Contract.{map_refusal}
use Rattle.sheet_converter.proofs.map_check.Goals as goal

pub returns-in_err-try_from : goal.returns-in_err-try_from
unfolding map_refusal
returns-in_err-try_from c =
    let r : refusal_in c.from_residual.result ≡ Some (refusal_of c.in_err-try_from.field-0.0) = search rules in
    r ∙ here _ (sym c.in_err-try_from.ensures.0)

pub returns-in_err-lists_check : goal.returns-in_err-lists_check
unfolding map_refusal
returns-in_err-lists_check c =
    let r : refusal_in c.from_residual-in_err-lists_check.result ≡ Some (refusal_of c.in_err-lists_check.field-0.0) = search rules in
    r ∙ next (sym c.in_ok-try_from.ensures.0) (here _ (sym c.in_err-lists_check.ensures))

pub returns-in_err-no_fault : goal.returns-in_err-no_fault
unfolding map_refusal
returns-in_err-no_fault c =
    let r : refusal_in c.from_residual-in_err-no_fault.result ≡ Some (refusal_of c.in_err-no_fault.field-0.0) = search rules in
    r ∙ next (sym c.in_ok-try_from.ensures.0) (next (sym c.in_ok-lists_check.ensures) (here _ (searched 9 c.cells_fault.ensures c.in_err-no_fault.ensures)))

pub returns : goal.returns
unfolding map_refusal
returns c =
    next (sym c.in_ok-try_from.ensures.0)
    (next (sym c.in_ok-lists_check.ensures) (next (searched 9 c.cells_fault.ensures c.in_ok-no_fault.ensures) (sym (ensured 22 c.is_one_list.ensures c.ensure.ensures))))
