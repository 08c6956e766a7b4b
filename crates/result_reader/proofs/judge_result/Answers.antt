-- `result_reader::judge_result` meets its contract: the three parts follow one another, the first that is refused is the answer, and then the first breach. Assumes nothing.
use Rattle.std.proofs.Common.{◌∙◌}
use Rattle.sheet.proofs.Passed.{passed}
use Rattle.result_reader.proofs.Answering.{first_of}
use Rattle.result_reader.proofs.Chains.{result_unopened, result_no_front, result-kept, result-broken}
use Rattle.result_reader.proofs.judge_result.Goals as goal

pub returns-in_err-opening : goal.returns-in_err-opening
returns-in_err-opening c = rw (passed _ c.from_residual.ensures.1) (result_unopened _ c.in_err-opening.ensures)

pub returns-in_err-front : goal.returns-in_err-front
returns-in_err-front c = rw (passed _ c.from_residual-in_err-front.ensures.1) (result_no_front _ c.in_ok-opening.ensures.same c.in_err-front.ensures)

pub returns-in_err-no_fault : goal.returns-in_err-no_fault
returns-in_err-no_fault c =
    rw (passed _ c.from_residual-in_err-no_fault.ensures.1)
    (result-broken c.or.result c.in_ok-opening.ensures c.in_ok-front.ensures c.in_ok-back.ensures
    (c.or.ensures ∙ first_of c.in_ok-front.front.value.breach c.in_ok-back.back.value.breach) _ c.in_err-no_fault.ensures)

pub returns : goal.returns
returns c =
    result-kept c.or.result c.in_ok-opening.ensures c.in_ok-front.ensures c.in_ok-back.ensures
    (c.or.ensures ∙ first_of c.in_ok-front.front.value.breach c.in_ok-back.back.value.breach) c.in_ok-no_fault.ensures
