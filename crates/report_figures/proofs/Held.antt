-- The rows that a flat list begins with, as lists of one row each. Assumes nothing.
use Rattle.std.proofs.Common.{◌≡◌, ℕ, ◌/◌, ◌≤◌, List, length, get_or, take, sym, ap, ◌∙◌, subst, arith}
use Rattle.std.specs.Simd.{first_chunks}
use Rattle.std.proofs.Math.ListN.{get_or-map}
use Rattle.std.proofs.lemmas.List.{length-map}
use Rattle.checks.specs.Passes.{pass_number}
use Rattle.checks.specs.declared.passes.Pass.{Pass}
use Rattle.report.specs.Runs.{accepted_run, squared_lengths}
use Rattle.report.specs.ReportLaws.Named.{unnamed_below}
use Rattle.laws.specs.ListLaws.FlatRows.{row_at, rows_in_lem, rows-length, row_in, rows_held, held_are}
use Rattle.laws.specs.FloatLaws.Pixels.{PixelSegment}
use Rattle.report_figures.specs.Forms.{HeldOnMap, RowsOnMap}
use Rattle.report_figures.specs.Calls.{call_run, kept_run}

-- the first rows of a list whose rows lie on a map
pub held-on_map : (kept : ℕ) (l : List ℕ) {rows : List (List ℕ)} → RowsOnMap kept l → rows ≡ first_chunks 5 (length l / 5) l → HeldOnMap (take kept rows)
held-on_map kept l {rows} R e =
    let many : kept ≤ length l / 5 = omega (arith, R.held) in
    let same : rows_held (take kept rows) ≡ rows_in_lem kept l = ap (λ r. rows_held (take kept r)) e ∙ held_are kept (length l / 5) l many in
    let long : length (take kept rows) ≡ kept = sym (length-map (take kept rows) (λ row. row_at row 0)) ∙ ap length same ∙ rows-length kept l in
    record {
      few = omega (arith, long, R.few);
      lines = λ k none h.
          subst (λ r. PixelSegment r.line)
          (sym (sym (get_or-map (λ row. row_at row 0) (take kept rows) k none) ∙ ap (λ x. get_or x k (row_at none 0)) same ∙ row_in kept l (row_at none 0) k (omega (arith, h, long))))
          (R.lines k (omega (arith, h, long)));
    }

-- the run that kept them
pub kept-called : {pass : ℕ} (p : Pass) → pass_number p ≡ pass → (kept count : ℕ) (l : List ℕ) {rows : List (List ℕ)} → RowsOnMap kept l → rows ≡ first_chunks 5 (length l / 5) l
    → kept_run (pass_number p) count (rows_held (take kept rows)) ≡ call_run pass 0 kept count l
kept-called {pass} p e kept count l {rows} R f =
    let same : rows_held (take kept rows) ≡ rows_in_lem kept l = ap (λ r. rows_held (take kept r)) f ∙ held_are kept (length l / 5) l (omega (arith, R.held)) in
    (λ i. kept_run (e i) count (same i))
    ∙ (λ i. accepted_run pass (record { accepted = 1; boundaries = count; kept = rows-length kept l i; removed = unnamed_below count (rows_in_lem kept l) }) (squared_lengths (rows_in_lem kept l)))
