-- What is answered and added for a sheet. Definitions only; assumes nothing.
use Rattle.std.specs.Prelude.{◌≡◌, cond, List, ℕ, ltb}
use Rattle.definitions.specs.Sheet.{Reading}
use Rattle.definitions.specs.Verdict.{Answer}
use Rattle.report.specs.Runs.{reading_run, sheet_reading, sheet_run}
use Rattle.report.specs.Report.{Report, max_runs, sum64, added_by, add_run}
use Rattle.report_figures.specs.declared.Reported.{Reported}
use Rattle.report_figures.specs.Forms.{report_form}
use Rattle.sheet_answer.specs.Contract.{reading_answer}

abbrev pub answer_in : Reported → Answer
answer_in r = record { number = r.number; value = r.value }

-- the answer to a reading, and the report R with its run
pub record AddedReading (R : Report) (reading : Reading) (r : Reported) : Type 0 where
  pub answer : answer_in r ≡ reading_answer reading
  pub report : report_form r.report ≡ added_by sum64 R (reading_run reading)

-- a run beyond the last is refused as 3 at 0
pub record SheetReported (R : Report) (bytes : List ℕ) (r : Reported) : Type 0 where
  pub answer : answer_in r ≡ cond (ltb R.runs max_runs) (reading_answer (sheet_reading bytes)) (record { number = 3; value = 0 })
  pub report : report_form r.report ≡ add_run R (sheet_run bytes)
