-- `accession::line::report_map` meets its contract. Assumes nothing.
use Rattle.std.proofs.Common.{rules, length, ap, ◌≡◌, ◌∙◌}
use Rattle.std.specs.Prelude.{Err}
use Rattle.refusals.specs.Answers.{answer_of}
use Rattle.refusals.proofs.Steps.{stopped, passed, ensured}
use Rattle.accession.proofs.Reporting.{room_same, line-counted}
use Rattle.accession.proofs.line.report_map.Goals as goal

pub returns-in_err-ensure-clause-answer : goal.returns-in_err-ensure-clause-answer
returns-in_err-ensure-clause-answer c =
    let a = c.args in
    let given : c.from_residual.result ≡ Err c.in_err-ensure.field-0.0 = search rules in
    ap answer_of given ∙ stopped _ _ _ (ensured 10 (room_same a.records.now a.number (length a.output.now) c.count_of_map-count.ensures) c.in_err-ensure.ensures)

pub returns-clause-answer : goal.returns-clause-answer
returns-clause-answer c =
    let a = c.args in
    passed _ _ (ensured 10 (room_same a.records.now a.number (length a.output.now) c.count_of_map-count.ensures) c.in_ok-ensure.ensures)
    (line-counted a.records.now a.number (length a.output.now) c.count_of_map-count.ensures)
