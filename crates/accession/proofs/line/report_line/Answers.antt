-- `accession::line::report_line` meets its contract: each check refuses by its number, or those that are left decide. Assumes nothing.
use Rattle.std.proofs.Common.{rules, refl, ap, ◌≡◌, ◌∙◌}
use Rattle.std.specs.Prelude.{Err}
use Rattle.refusals.proofs.Steps.{stopped, passed, ensured, searched}
use Rattle.catalogue.specs.Line.{line_verdict}
use Rattle.refusals.specs.Answers.{answer_of}
use Rattle.accession.proofs.line.report_line.Goals as goal

pub returns-in_err-ensure-clause-answer : goal.returns-in_err-ensure-clause-answer
unfolding line_verdict
returns-in_err-ensure-clause-answer c =
    let given : c.from_residual.result ≡ Err c.in_err-ensure.field-0.0 = search rules in
    ap answer_of given ∙ stopped _ _ _ (ensured 3 refl c.in_err-ensure.ensures)

pub returns-in_err-no_fault-clause-answer : goal.returns-in_err-no_fault-clause-answer
unfolding line_verdict
returns-in_err-no_fault-clause-answer c =
    let given : c.from_residual-in_err-no_fault.result ≡ Err c.in_err-no_fault.field-0.0 = search rules in
    ap answer_of given ∙ passed _ _ (ensured 3 refl c.in_ok-ensure.ensures) (stopped _ _ _ (searched 17 c.first_broken.ensures c.in_err-no_fault.ensures))
