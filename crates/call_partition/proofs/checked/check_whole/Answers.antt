-- `call_partition::checked::check_whole` meets its contract: each test is a check's own, and where one refuses, those before it did not. Assumes nothing.
use Rattle.std.proofs.Common.{rules, sym, ◌≡◌, ◌∙◌}
use Rattle.std.specs.Prelude.{Some}
use Rattle.refusals.specs.Refusals.{refusal_in, refusal_of}
use Rattle.refusals.proofs.Steps.{here, next, ensured}
use Rattle.call_partition.specs.Early.{whole_refusal}
use Rattle.call_partition.proofs.checked.check_whole.Goals as goal

pub returns-in_err-ensure : goal.returns-in_err-ensure
unfolding whole_refusal
returns-in_err-ensure c =
    let r : refusal_in c.from_residual.result ≡ Some (refusal_of c.in_err-ensure.field-0.0) = search rules in
    r ∙ here _ (ensured 1 c.sides_fit.ensures c.in_err-ensure.ensures)

pub returns-in_err-ensure-2 : goal.returns-in_err-ensure-2
unfolding whole_refusal
returns-in_err-ensure-2 c =
    let r : refusal_in c.from_residual-in_err-ensure-2.result ≡ Some (refusal_of c.in_err-ensure-2.field-0.0) = search rules in
    r ∙ next (ensured 1 c.sides_fit.ensures c.in_ok-ensure.ensures) (here _ (ensured 2 c.cells_fit-counted.ensures c.in_err-ensure-2.ensures))

pub returns : goal.returns
unfolding whole_refusal
returns c =
    next (ensured 1 c.sides_fit.ensures c.in_ok-ensure.ensures) (next (ensured 2 c.cells_fit-counted.ensures c.in_ok-ensure-2.ensures) (sym (ensured 3 c.all_whole-whole.ensures c.ensure-3.ensures)))
