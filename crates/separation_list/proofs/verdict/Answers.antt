-- `verdict` meets its contract: the four checks, in the definition's order. Assumes nothing.
use Rattle.std.proofs.Common.{rules, ap, ◌≡◌, ◌∙◌, ◌*◌}
use Rattle.std.specs.Prelude.{Err, leb}
use Rattle.refusals.proofs.Steps.{stopped, passed, ensured, searched}
use Rattle.separations.specs.Listing.{numbers_per_separation, list_verdict}
use Rattle.refusals.specs.Answers.{answer_of}
use Rattle.separation_list.proofs.verdict.Goals as goal

pub returns-in_err-ensure : goal.returns-in_err-ensure
unfolding list_verdict
returns-in_err-ensure c =
    let given : c.from_residual.result ≡ Err c.in_err-ensure.field-0.0 = search rules in
    ap answer_of given ∙ stopped _ _ _ (ensured 1 c.sides_fit.ensures c.in_err-ensure.ensures)

pub returns-in_err-ensure-2 : goal.returns-in_err-ensure-2
unfolding list_verdict
returns-in_err-ensure-2 c =
    let given : c.from_residual-in_err-ensure-2.result ≡ Err c.in_err-ensure-2.field-0.0 = search rules in
    ap answer_of given ∙ passed _ _ (ensured 1 c.sides_fit.ensures c.in_ok-ensure.ensures) (stopped _ _ _ (ensured 3 c.is_whole.ensures c.in_err-ensure-2.ensures))

pub returns-in_err-no_fault : goal.returns-in_err-no_fault
unfolding list_verdict
returns-in_err-no_fault c =
    let given : c.from_residual-in_err-no_fault.result ≡ Err c.in_err-no_fault.field-0.0 = search rules in
    ap answer_of given
    ∙ passed _ _ (ensured 1 c.sides_fit.ensures c.in_ok-ensure.ensures)
    (passed _ _ (ensured 3 c.is_whole.ensures c.in_ok-ensure-2.ensures) (stopped _ _ _ (searched 7 c.boundaries_fault.ensures c.in_err-no_fault.ensures)))

pub returns-in_err-ensure-3 : goal.returns-in_err-ensure-3
unfolding list_verdict
returns-in_err-ensure-3 c =
    let given : c.from_residual-in_err-ensure-3.result ≡ Err c.in_err-ensure-3.field-0.0 = search rules in
    let fits = ap (λ n. leb (numbers_per_separation * n) c.args.room) c.pair_count-count.ensures.0 in
    ap answer_of given
    ∙ passed _ _ (ensured 1 c.sides_fit.ensures c.in_ok-ensure.ensures)
    (passed _ _ (ensured 3 c.is_whole.ensures c.in_ok-ensure-2.ensures)
    (passed _ _ (searched 7 c.boundaries_fault.ensures c.in_ok-no_fault.ensures) (stopped _ _ _ (ensured 10 fits c.in_err-ensure-3.ensures))))

pub returns : goal.returns
unfolding list_verdict
returns c =
    let fits = ap (λ n. leb (numbers_per_separation * n) c.args.room) c.pair_count-count.ensures.0 in
    passed _ _ (ensured 1 c.sides_fit.ensures c.in_ok-ensure.ensures)
    (passed _ _ (ensured 3 c.is_whole.ensures c.in_ok-ensure-2.ensures)
    (passed _ _ (searched 7 c.boundaries_fault.ensures c.in_ok-no_fault.ensures)
    (passed _ _ (ensured 10 fits c.in_ok-ensure-3.ensures) (ap (λ n. record { number = 0; value = n }) c.pair_count-count.ensures.0))))
