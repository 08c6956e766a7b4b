-- `report_sheets::add_sheet` meets its contract: what is added is the run of a sheet, or a refusal. Assumes nothing.
use Rattle.std.proofs.Common.{sym, ap, arith, ◌∙◌}
use Rattle.refusals.proofs.Steps.{positive}
use Rattle.sheet_answer.specs.Contract.{kept_of}
use Rattle.refusals.specs.Answers.{answer_of}
use Rattle.report_sheets.proofs.Sheets.{run-left, kept-added, none_added}
use Rattle.refusals.specs.Answers.{answer_in as said}
use Rattle.report.specs.Runs.{refused_run}
use Rattle.report.specs.Report.{sum64, added_by}
use Rattle.report_figures.specs.declared.Reported.{Reported}
use Rattle.report_figures.specs.Forms.{report_form}
use Rattle.report_sheets.specs.Contract.{answer_in as given}
use Rattle.report_sheets.proofs.add_sheet.Goals as goal

pub answered-requires : goal.answered-requires
answered-requires c = run-left (c.run_sheet.ensures.run_of c.in-Ok.run' c.in-Ok.is)

pub returns-in-Ok : goal.returns-in-Ok
returns-in-Ok c = kept-added c.args.bytes.now (c.run_sheet.ensures.run_of c.in-Ok.run' c.in-Ok.is) c.answered.ensures

pub returns-in-Err : goal.returns-in-Err
returns-in-Err c =
    let answer = sym (ap (λ r. answer_of (kept_of r)) c.in-Err.is) ∙ c.run_sheet.ensures.answer in
    none_added c.args.bytes.now answer (λ z. omega (arith, positive c.in-Err.refusal.cause, z))
    (ap given c.new.ensures ∙ ap said c.from.ensures)
    (ap (λ (x : Reported). report_form x.report) c.new.ensures ∙ c.with_refused.ensures ∙ ap (λ n. added_by sum64 (report_form c.args.report) (refused_run n)) c.number.ensures)
