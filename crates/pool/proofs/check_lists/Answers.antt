-- `pool::check_lists` meets its contract: 3, then 17, then the terms. Assumes nothing.
use Rattle.std.proofs.Common.{rules, refl, ◌≡◌, ◌∙◌}
use Rattle.std.specs.Prelude.{Some}
use Rattle.refusals.specs.Refusals.{refusal_in, refusal_of}
use Rattle.refusals.proofs.Steps.{here, next, ensured, searched}
use Rattle.pool.specs.Contract.{lists_refusal}
use Rattle.pool.proofs.check_lists.Goals as goal

pub returns-in_err-ensure : goal.returns-in_err-ensure
unfolding lists_refusal
returns-in_err-ensure c =
    let r : refusal_in c.from_residual.result ≡ Some (refusal_of c.in_err-ensure.field-0.0) = search rules in
    r ∙ here _ (ensured 3 refl c.in_err-ensure.ensures)

pub returns-in_err-no_fault : goal.returns-in_err-no_fault
unfolding lists_refusal
returns-in_err-no_fault c =
    let r : refusal_in c.from_residual-in_err-no_fault.result ≡ Some (refusal_of c.in_err-no_fault.field-0.0) = search rules in
    r ∙ next (ensured 3 refl c.in_ok-ensure.ensures) (here _ (searched 17 c.first_broken.ensures c.in_err-no_fault.ensures))

pub returns : goal.returns
unfolding lists_refusal
returns c = next (ensured 3 refl c.in_ok-ensure.ensures) (next (searched 17 c.first_broken.ensures c.in_ok-no_fault.ensures) c.terms_fault.ensures)
