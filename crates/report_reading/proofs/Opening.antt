-- What is answered and added, by what the reader answered and by how many runs there are. Assumes nothing.
use Prim.Native.Nat.{ℕ, ◌≤◌, ◌<◌}
use native.Mathlib.Omega.{arith}
use mathlib.Core.Path.{◌≡◌, refl, sym, ap, ◌∙◌}
use mathlib.Core.Bool.{Bool, true, false}
use mathlib.Core.List.{List}
use lib.Dec.{ltb}
use borrow.Author.Tests.{ltb-true, ltb-false}
use Rattle.definitions.specs.Sheet.{Reading, well_formed, refused}
use Rattle.std.specs.Prelude.{Result}
use Rattle.refusals.specs.declared.Refusal.{Refusal}
use Rattle.sheet.specs.Contract.{answer_of, Answered}
use Rattle.sheet.specs.declared.Header.{Header}
use Rattle.report.specs.Runs.{refused_run}
use Rattle.report.specs.Report.{max_runs}
use Rattle.report.proofs.ReportLaws.Order as order
use Rattle.report_figures.specs.declared.Report.{Report}
use Rattle.report_figures.specs.Forms.{report_form}
use Rattle.report_reading.specs.declared.Opened.{Opened}
use Rattle.report_reading.specs.Contract.{refused_as_lem, opened_with, added_answer, added_reading, OpenedFor, ReadFor}

module _ (report : Report) (reading : Reading) {cells spans boundaries anchors : List ℕ} {b : Bool} (t : b ≡ ltb report.runs max_runs) {r : Opened} where
  pub read-within : b ≡ true → {answer : Result Header Refusal} {cells' spans' boundaries' anchors' : List ℕ} → Answered reading cells spans boundaries anchors answer cells' spans' boundaries' anchors'
      → OpenedFor report answer r → ReadFor report reading cells spans boundaries anchors r cells' spans' boundaries' anchors'
  read-within e A O =
      let room : report.runs < max_runs = ltb-true report.runs max_runs (sym t ∙ e) in
      record {
        added = O.added ∙ ap (added_answer (report_form report)) A.said ∙ go room reading;
        within = λ h. (O.head ∙ ap (opened_with r.report) A.said, A.cells_left, A.spans-left, A.boundaries-left, A.anchors-left);
        beyond = λ h. absurd (omega arith);
      }
    where
      go : report.runs < max_runs → (x : Reading) → added_answer (report_form report) (answer_of x) ≡ added_reading (report_form report) x
      go h (well_formed s) = refl
      go h (refused number place) = sym (order.within (report_form report) (refused_run number) h)

  pub read-beyond : b ≡ false → r ≡ refused_as_lem report 3 0 → ReadFor report reading cells spans boundaries anchors r cells spans boundaries anchors
  read-beyond e h =
      let full : max_runs ≤ report.runs = ltb-false report.runs max_runs (sym t ∙ e) in
      record {
        added = ap (λ x. report_form x.report) h ∙ go full reading;
        within = λ l. absurd (omega arith);
        beyond = λ l. (h, refl, refl, refl, refl);
      }
    where
      go : max_runs ≤ report.runs → (x : Reading) → report_form report ≡ added_reading (report_form report) x
      go l (well_formed s) = refl
      go l (refused number place) = sym (order.beyond (report_form report) (refused_run number) l)
