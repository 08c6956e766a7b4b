-- The contract of a call that is made and added to a report. Definitions only; assumes nothing.
use Rattle.std.specs.Prelude.{ℕ, ◌≤◌, ◌<◌, ◌≡◌}
use Rattle.report.specs.Runs.{run_of}
use Rattle.report.specs.Report.{Report, max_runs, add_run}
use Rattle.report_figures.specs.declared.Reported.{Reported}
use Rattle.report_figures.specs.Forms.{report_form}
use Rattle.topology.specs.Lent.{LentLists, LeftLists, lent_call}
use Rattle.topology.specs.Contract.{RanOver}

-- a run beyond the last: the answer and every list
pub record Beyond (L : LentLists) (r : Reported) (E : LeftLists) : Type 0 where
  pub refused_as : r.number ≡ 3
  pub place : r.value ≡ 0
  pub same_labels : E.labels ≡ L.labels
  pub same_masks : E.masks ≡ L.masks
  pub same_queue : E.queue ≡ L.queue
  pub same_tallies : E.tallies ≡ L.tallies
  pub same_pairs : E.pairs ≡ L.pairs
  pub same_records : E.records ≡ L.records
  pub same_output : E.output ≡ L.output

-- The report R has become the one with this run, in every case. Within the 10,000 the answer and the lists are those of the call.
pub record ReportedOver (R : Report) (pass : ℕ) (L : LentLists) (r : Reported) (E : LeftLists) : Type 0 where
  pub report : report_form r.report ≡ add_run R (run_of (lent_call pass L))
  pub within : R.runs < max_runs → RanOver pass L (record { number = r.number; value = r.value }) E
  pub beyond : max_runs ≤ R.runs → Beyond L r E
