-- `sheet_converter::lists_check` meets its contract: each answer is a check's own, and where one refuses, those before it did not. Assumes nothing.
use Rattle.std.proofs.Common.{rules, sym, ◌≡◌, ◌∙◌}
use Rattle.std.specs.Prelude.{Some}
use Rattle.refusals.specs.Refusals.{refusal_in, refusal_of}
use Rattle.refusals.proofs.Steps.{here, next, searched}
use Rattle.sheet_converter.specs.Contract.{lists_refusal}
use Rattle.sheet_converter.proofs.lists_check.Goals as goal

pub returns-in_err-spans_fault : goal.returns-in_err-spans_fault
unfolding lists_refusal
returns-in_err-spans_fault c =
    let r : refusal_in c.from_residual.result ≡ Some (refusal_of c.in_err-spans_fault.field-0.0) = search rules in
    r ∙ here _ (sym c.in_err-spans_fault.ensures)

pub returns-in_err-no_fault : goal.returns-in_err-no_fault
unfolding lists_refusal
returns-in_err-no_fault c =
    let r : refusal_in c.from_residual-in_err-no_fault.result ≡ Some (refusal_of c.in_err-no_fault.field-0.0) = search rules in
    r ∙ next (sym c.in_ok-spans_fault.ensures) (here _ (searched 7 c.boundaries_fault.ensures c.in_err-no_fault.ensures))

pub returns : goal.returns
unfolding lists_refusal
returns c =
    next (sym c.in_ok-spans_fault.ensures) (next (searched 7 c.boundaries_fault.ensures c.in_ok-no_fault.ensures) (sym (searched 8 c.anchors_fault.ensures c.no_fault-2.ensures)))
