-- What is answered for a sheet that is read for a report, and what it adds. Definitions only; assumes nothing.
use Rattle.std.specs.Prelude.{ℕ, ◌≤◌, ◌<◌, ◌≡◌, cond, List, length, ltb, Result, Ok, Err}
use Rattle.definitions.specs.Sheet.{Reading, well_formed, refused, at_exit, keptlist_cell_limit}
use Rattle.definitions.specs.Printed.{max_sheet_bytes}
use Rattle.definitions.specs.Refusals.{Refusal}
use Rattle.refusals.specs.declared.Refusal as code
use Rattle.sheet.specs.Contract.{answer_of, by_number, reading_within}
use Rattle.sheet.specs.declared.Header.{Header}
use Rattle.report.specs.Runs.{refused_run}
use Rattle.report.specs.Report as def
use Rattle.report.specs.Report.{max_runs, sum64, added_by, add_run}
use Rattle.report_figures.specs.declared.Report.{Report}
use Rattle.report_figures.specs.Forms.{report_form}
use Rattle.report_reading.specs.declared.Opened.{Opened}

-- what the sheet opens with, and the report
abbrev pub opened_as : Report → Header → Opened
opened_as report header =
    record {
      number = 0;
      place = 0;
      pass = header.pass;
      width = header.width;
      height = header.height;
      spans = header.spans;
      boundaries = header.boundaries;
      anchors = header.anchors;
      report = report;
    }

abbrev pub refused_as_lem : Report → ℕ → ℕ → Opened
refused_as_lem report number place =
    record { number = number; place = place; pass = 0; width = 0; height = 0; spans = 0; boundaries = 0; anchors = 0; report = report }

-- the reader's answer as it is given, with whatever report
abbrev pub opened_with : Report → Result Header Refusal → Opened
opened_with report (Ok header) = opened_as report header
opened_with report (Err refusal) = refused_as_lem report refusal.number refusal.place

-- a run that was refused is added; a sheet that was read is no run yet
abbrev pub added_answer : def.Report → Result Header Refusal → def.Report
added_answer R (Ok header) = R
added_answer R (Err refusal) = added_by sum64 R (refused_run refusal.number)

-- what `keptlist` makes of its bytes, with lists of these lengths: "A sheet over 65,536 bytes is `refused 14 at 65536` before any other check."
abbrev pub limited_reading : List ℕ → List ℕ → List ℕ → List ℕ → List ℕ → Reading
limited_reading bytes cells spans boundaries anchors =
    cond (ltb max_sheet_bytes (length bytes)) (refused 14 max_sheet_bytes) (reading_within keptlist_cell_limit bytes cells spans boundaries anchors)

pub record OpenedFor (report : Report) (answer : Result Header code.Refusal) (r : Opened) : Type 0 where
  pub head : r ≡ opened_with r.report (by_number answer)
  pub added : report_form r.report ≡ added_answer (report_form report) (by_number answer)

-- the same by the reading, 10,000 runs at most
abbrev pub added_reading : def.Report → Reading → def.Report
added_reading R (well_formed s) = R
added_reading R (refused number place) = add_run R (refused_run number)

pub record ReadFor (report : Report) (reading : Reading) (cells spans boundaries anchors : List ℕ) (r : Opened) (cells' spans' boundaries' anchors' : List ℕ) : Type 0 where
  pub added : report_form r.report ≡ added_reading (report_form report) reading
  pub within : report.runs < max_runs
      → (r ≡ opened_with r.report (answer_of reading)) × (cells' ≡ at_exit (λ s. s.cells) reading cells) × (spans' ≡ at_exit (λ s. s.spans) reading spans)
      × (boundaries' ≡ at_exit (λ s. s.boundaries) reading boundaries) × (anchors' ≡ at_exit (λ s. s.anchors) reading anchors)
  pub beyond : max_runs ≤ report.runs
      → (r ≡ refused_as_lem report 3 0) × (cells' ≡ cells) × (spans' ≡ spans) × (boundaries' ≡ boundaries) × (anchors' ≡ anchors)
