-- From the answer to a sheet to what is answered and added. Assumes nothing.
use Prim.Native.Nat.{ℕ, zero, suc, ◌/◌}
use native.Mathlib.Omega.{arith}
use mathlib.Core.Path.{◌≡◌, refl, sym, ap, subst, ◌∙◌}
use mathlib.Core.Bool.{Bool, true, false, cond}
use mathlib.Core.List.{List}
use lib.ListN.{length}
use lib.Dec.{ltb}
use borrow.Author.Tests.{ltb-true, ltb-false}
use Rattle.definitions.specs.Limits.{numbers_per_boundary}
use Rattle.definitions.specs.Sheet.{Reading, well_formed, refused}
use Rattle.definitions.specs.Verdict.{Lent, Answer, verdict}
use Rattle.definitions.specs.Printed.{lent_for}
use Rattle.sheet_answer.specs.Contract.{keptlist_reading, reading_answer, RunOf}
use Rattle.sheet_answer.specs.declared.runs.SheetRun.{SheetRun}
use Rattle.report.specs.Runs.{refused_run, run_by, run_of, reading_run, sheet_reading, sheet_run}
use Rattle.report.specs.Report.{Report, max_runs, sum64, added_by}
use Rattle.report.proofs.ReportLaws.Order.{within, beyond}
use Rattle.report_figures.specs.declared.Reported.{Reported}
use Rattle.report_figures.specs.declared.Report as declared
use Rattle.report_figures.specs.Forms.{report_form}
use Rattle.report_figures.specs.Calls.{CallLeft, ReportedCall}
use Rattle.report_figures.proofs.Called.{call-left, call-added}
use Rattle.report_sheets.specs.Contract.{answer_in, AddedReading, SheetReported}

same_rule : (bytes : List ℕ) → keptlist_reading bytes ≡ sheet_reading bytes
unfolding keptlist_reading sheet_reading
same_rule bytes = refl

-- ---- a sheet that was run

module _ {reading : Reading} {run : SheetRun} {output : List ℕ} (R : RunOf reading run output) where
  pub run-left : CallLeft run.pass 0 run.kept output
  unfolding lent_for
  run-left = subst (λ k. CallLeft k 0 run.kept output) (sym R.pass_is) (call-left (lent_for R.sheet) R.called.answer R.called.output_left)

  run-added : {Q : Report} {x : Reported} → ReportedCall Q run.pass 0 run.kept run.boundaries output x → AddedReading Q reading x
  unfolding reading_answer reading_run lent_for
  run-added {Q} {x} told =
      let K = subst (λ k. ReportedCall Q k 0 run.kept run.boundaries output x) R.pass_is told in
      subst (λ r. AddedReading Q r x) (sym R.read)
      (record {
        answer = (λ i. record { number = K.same_number i; value = K.same_value i }) ∙ R.called.answer;
        report = K.added ∙ ap (added_by sum64 Q) (call-added (lent_for R.sheet) R.called.answer R.called.output_left run.boundaries R.counted);
      })

-- ---- a refusal

refused_by_number : (number : ℕ) (L : Lent) → (number ≡ 0 → ⊥) → run_by number L ≡ refused_run number
unfolding run_by
refused_by_number zero L h = absurd (h refl)
refused_by_number (suc number) L h = refl

run_refused : (r : Reading) (a : Answer) → a ≡ reading_answer r → (a.number ≡ 0 → ⊥) → refused_run a.number ≡ reading_run r
unfolding reading_answer reading_run run_of
run_refused (well_formed s) a e h = sym (ap (λ x. run_by x.number (lent_for s)) (sym e) ∙ refused_by_number a.number (lent_for s) h)
run_refused (refused number place) a e h = ap (λ x. refused_run x.number) e

refusal-added : {reading : Reading} {a : Answer} → a ≡ reading_answer reading → (a.number ≡ 0 → ⊥) → {Q : Report} {x : Reported} → answer_in x ≡ a
    → report_form x.report ≡ added_by sum64 Q (refused_run a.number) → AddedReading Q reading x
refusal-added {reading} {a} e h {Q} f g = record { answer = f ∙ e; report = g ∙ ap (added_by sum64 Q) (run_refused reading a e h) }

-- ---- of the bytes

module _ (bytes : List ℕ) {Q : Report} {x : Reported} where
  of_bytes : AddedReading Q (keptlist_reading bytes) x → AddedReading Q (sheet_reading bytes) x
  of_bytes A = subst (λ r. AddedReading Q r x) (same_rule bytes) A

  pub kept-added : {run : SheetRun} {output : List ℕ} → RunOf (keptlist_reading bytes) run output → ReportedCall Q run.pass 0 run.kept run.boundaries output x
      → AddedReading Q (sheet_reading bytes) x
  kept-added R K = of_bytes (run-added R K)

  pub none_added : {a : Answer} → a ≡ reading_answer (keptlist_reading bytes) → (a.number ≡ 0 → ⊥) → answer_in x ≡ a
      → report_form x.report ≡ added_by sum64 Q (refused_run a.number) → AddedReading Q (sheet_reading bytes) x
  none_added e h f g = of_bytes (refusal-added e h f g)

-- ---- the report

module _ (report : declared.Report) (bytes : List ℕ) {r : Reported} where
  pub within-room : {b : Bool} → b ≡ ltb report.runs max_runs → b ≡ true → AddedReading (report_form report) (sheet_reading bytes) r → SheetReported (report_form report) bytes r
  unfolding sheet_run
  within-room e k A =
      let room : ltb report.runs max_runs ≡ true = sym e ∙ k in
      record {
        answer = A.answer ∙ sym (ap (λ b. cond b (reading_answer (sheet_reading bytes)) (record { number = 3; value = 0 })) room);
        report = A.report ∙ sym (within (report_form report) (sheet_run bytes) (ltb-true report.runs max_runs room));
      }

  pub no_room : {b : Bool} → b ≡ ltb report.runs max_runs → b ≡ false → r ≡ record { number = 3; value = 0; report = report } → SheetReported (report_form report) bytes r
  no_room e k same =
      let full : ltb report.runs max_runs ≡ false = sym e ∙ k in
      record {
        answer = ap answer_in same ∙ sym (ap (λ b. cond b (reading_answer (sheet_reading bytes)) (record { number = 3; value = 0 })) full);
        report = ap (λ x. report_form x.report) same ∙ sym (beyond (report_form report) (sheet_run bytes) (ltb-false report.runs max_runs full));
      }
