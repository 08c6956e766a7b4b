-- A call that was made and is added to a report: what adding it asks, and the contract, within the 10,000 runs and beyond them. Assumes nothing.
use Prim.Native.Nat.{ℕ, ◌/◌, ◌≤◌, ◌<◌}
use native.Mathlib.Omega.{arith}
use mathlib.Core.Path.{◌≡◌, refl, sym, ap, subst, ◌∙◌}
use mathlib.Core.Bool.{Bool, true, false}
use lib.ListN.{length}
use lib.Dec.{ltb}
use borrow.Author.Tests.{ltb-true, ltb-false}
use Rattle.definitions.specs.Limits.{numbers_per_boundary}
use Rattle.report.specs.Runs.{run_of}
use Rattle.report.specs.Report.{max_runs, sum64, added_by}
use Rattle.report.proofs.ReportLaws.Order as order
use Rattle.report_figures.specs.declared.Report.{Report}
use Rattle.report_figures.specs.declared.Reported.{Reported}
use Rattle.report_figures.specs.Forms.{report_form}
use Rattle.report_figures.specs.Calls.{CallLeft, ReportedCall}
use Rattle.report_figures.proofs.Called.{call-left, call-added}
use Rattle.topology.specs.Lent.{LentLists, LeftLists, lent_call, leaves}
use Rattle.topology.specs.Contract.{RanOver}
use Rattle.topology.specs.Reports.{ReportedOver}
use Rattle.definitions.specs.Verdict.{Answer}

-- the lists that are lent to be filled, as they were
abbrev pub untouched : LentLists → LeftLists
untouched L = leaves L.labels L.masks L.queue L.tallies L.pairs L.records L.output

module _ {pass : ℕ} {L : LentLists} where
  module _ {a : Answer} {E : LeftLists} (ran : RanOver pass L a E) where
    -- what adding it asks
    pub ran-left : CallLeft pass a.number a.value E.output
    ran-left = call-left (lent_call pass L) ran.ran.answer ran.ran.output

    pub ran-reported : (report : Report) {b : Bool} → b ≡ ltb report.runs max_runs → b ≡ true → {r : Reported}
        → ReportedCall (report_form report) pass a.number a.value (length L.boundaries / numbers_per_boundary) E.output r
        → ReportedOver (report_form report) pass L r E
    ran-reported report e k {r} K =
        let room : report.runs < max_runs = ltb-true report.runs max_runs (sym e ∙ k) in
        let same : a ≡ record { number = r.number; value = r.value } = λ i. record { number = sym K.same_number i; value = sym K.same_value i } in
        record {
          report =
              K.added
              ∙ ap (added_by sum64 (report_form report)) (call-added (lent_call pass L) ran.ran.answer ran.ran.output (length L.boundaries / numbers_per_boundary) refl)
              ∙ sym (order.within (report_form report) (run_of (lent_call pass L)) room);
          within = λ _. subst (λ x. RanOver pass L x E) same ran;
          beyond = λ full. absurd (omega arith);
        }

  pub beyond-reported : (report : Report) {b : Bool} → b ≡ ltb report.runs max_runs → b ≡ false → {r : Reported}
      → r ≡ record { number = 3; value = 0; report = report } → ReportedOver (report_form report) pass L r (untouched L)
  beyond-reported report e k {r} same =
      let full : max_runs ≤ report.runs = ltb-false report.runs max_runs (sym e ∙ k) in
      record {
        report = ap (λ x. report_form x.report) same ∙ sym (order.beyond (report_form report) (run_of (lent_call pass L)) full);
        within = λ room. absurd (omega arith);
        beyond = λ _. record {
          refused_as = ap (λ x. x.number) same;
          place = ap (λ x. x.value) same;
          same_labels = refl;
          same_masks = refl;
          same_queue = refl;
          same_tallies = refl;
          same_pairs = refl;
          same_records = refl;
          same_output = refl;
        };
      }
