-- The run that a call was, from its answer and what it left in the output. Definitions only; assumes nothing.
use Rattle.std.specs.Prelude.{◌≡◌, ℕ, zero, suc, ◌≤◌, List, length}
use Rattle.definitions.specs.Rows.{Row}
use Rattle.laws.specs.ListLaws.FlatRows.{rows_in_lem}
use Rattle.report.specs.Runs.{Run, refused_run, accepted_run, squared_lengths}
use Rattle.report.specs.Report.{Report, sum64, pass_count, added_by}
use Rattle.report.specs.ReportLaws.Named.{unnamed_below}
use Rattle.report_figures.specs.declared.Reported.{Reported}
use Rattle.report_figures.specs.Forms.{report_form, RowsOnMap}

-- a run of a pass that kept these rows, of so many boundaries
abbrev pub kept_run : ℕ → ℕ → List Row → Run
kept_run pass count rows =
    accepted_run pass (record { accepted = 1; boundaries = count; kept = length rows; removed = unnamed_below count rows }) (squared_lengths rows)

-- by the answer's number: a pass with so many rows in the output, of so many boundaries; or the refusal
abbrev pub call_run : ℕ → ℕ → ℕ → ℕ → List ℕ → Run
call_run pass zero kept count output =
    accepted_run pass (record { accepted = 1; boundaries = count; kept = kept; removed = unnamed_below count (rows_in_lem kept output) })
    (squared_lengths (rows_in_lem kept output))
call_run pass (suc number) kept count output = refused_run (suc number)

-- what a call that was accepted leaves
abbrev pub CallLeft : ℕ → ℕ → ℕ → List ℕ → Type 0
CallLeft pass number kept output = number ≡ 0 → (1 ≤ pass) × (pass ≤ pass_count) × RowsOnMap kept output

-- an answer of this number and value, and the report R with the run
pub record ReportedCall (R : Report) (pass number value count : ℕ) (output : List ℕ) (r : Reported) : Type 0 where
  pub same_number : r.number ≡ number
  pub same_value : r.value ≡ value
  pub added : report_form r.report ≡ added_by sum64 R (call_run pass number value count output)
