-- What is printed for a sheet that was read and run, or was not, is what `keptlist` prints. Assumes nothing.
use Prim.Native.Nat.{ℕ, zero, suc, ◌/◌}
use native.Mathlib.Omega.{arith}
use mathlib.Core.Path.{◌≡◌, refl, sym, ap, ◌∙◌}
use mathlib.Core.Bool.{Bool, true, false, cond}
use mathlib.Core.List.{List, [], ◌∷◌, ◌++◌}
use lib.ListN.{length, take}
use lib.Dec.{ltb}
use Rattle.std.specs.Simd.{first_chunks}
use Rattle.std.proofs.lemmas.List.{length-map}
use Rattle.definitions.specs.Scan.{concat_map}
use Rattle.definitions.specs.Rows.{rows_of}
use Rattle.definitions.specs.Sheet.{Reading, well_formed, refused, read_sheet, keptlist_cell_limit}
use Rattle.definitions.specs.Verdict.{Lent, map_in, verdict}
use Rattle.definitions.specs.Printed.{max_sheet_bytes, refused_line, kept_line, row_line, lent_for, printed_answer, printed_reading, keptlist}
use Rattle.laws.specs.ListLaws.FlatRows.{row_at, rows_in_lem, rows-length, rows_held, held_are}
use Rattle.laws.specs.TableLaws.KeptRows.{boundary_count_lem}
use Rattle.printed.specs.Contract.{row_lines}
use Rattle.report_figures.specs.Forms.{RowsOnMap}
use Rattle.report_figures.proofs.Called.{call-left, rows_are}
use Rattle.sheet_answer.specs.Contract.{keptlist_reading, reading_answer, RunOf}
use Rattle.sheet_answer.specs.declared.runs.SheetRun.{SheetRun}

keptlist_reading_lem : (bytes : List ℕ) → keptlist bytes ≡ printed_reading (keptlist_reading bytes)
unfolding keptlist keptlist_reading printed_reading
keptlist_reading_lem bytes = go (ltb max_sheet_bytes (length bytes)) (read_sheet keptlist_cell_limit bytes)
  where
    go : (long : Bool) (r : Reading) → cond long (refused_line 14 max_sheet_bytes) (printed_reading r) ≡ printed_reading (cond long (refused 14 max_sheet_bytes) r)
    go true r = refl
    go false r = refl

-- ---- a refusal

answer_refused : (number : ℕ) (L : Lent) (value : ℕ) → (number ≡ 0 → ⊥) → printed_answer number L value ≡ refused_line number value
unfolding printed_answer
answer_refused zero L value h = absurd (h refl)
answer_refused (suc number) L value h = refl

reading_refused : (r : Reading) → ((reading_answer r).number ≡ 0 → ⊥) → printed_reading r ≡ refused_line (reading_answer r).number (reading_answer r).value
unfolding printed_reading reading_answer
reading_refused (well_formed s) h = answer_refused (verdict (lent_for s)).number (lent_for s) (verdict (lent_for s)).value h
reading_refused (refused number place) h = refl

-- where the answer's number is not 0, its refusal is what is printed
pub refusal_line : (bytes : List ℕ) → ((reading_answer (keptlist_reading bytes)).number ≡ 0 → ⊥)
    → keptlist bytes ≡ refused_line (reading_answer (keptlist_reading bytes)).number (reading_answer (keptlist_reading bytes)).value
refusal_line bytes h = keptlist_reading_lem bytes ∙ reading_refused (keptlist_reading bytes) h

-- ---- a kept list

lines_held : (rows : List (List ℕ)) → row_lines rows ≡ concat_map row_line (rows_held rows)
unfolding concat_map
lines_held [] = refl
lines_held (row ∷ rows) = ap (λ l. row_line (row_at row 0) ++ l) (lines_held rows)

module _ (bytes : List ℕ) {run : SheetRun} {output : List ℕ} (R : RunOf (keptlist_reading bytes) run output) where
  -- the rows on their map
  pub rows_left : RowsOnMap run.kept output
  rows_left = (call-left (lent_for R.sheet) R.called.answer R.called.output_left refl).2

  pub kept-printed : {rows : List (List ℕ)} → rows ≡ first_chunks 5 (length output / 5) output
      → keptlist bytes ≡ kept_line (length (take run.kept rows)) run.boundaries ++ row_lines (take run.kept rows)
  unfolding printed_reading printed_answer lent_for
  kept-printed {rows} e =
      keptlist_reading_lem bytes ∙ ap printed_reading R.read ∙ ap (λ x. printed_answer x.number L x.value) (sym R.called.answer)
      ∙ (λ i. kept_line (long i) (boundary_count_lem L i) ++ concat_map row_line (held i))
      ∙ ap (λ n. kept_line (length (take run.kept rows)) n ++ concat_map row_line (rows_held (take run.kept rows))) (sym R.counted)
      ∙ ap (λ l. kept_line (length (take run.kept rows)) run.boundaries ++ l) (sym (lines_held (take run.kept rows)))
    where
      L : Lent
      L = lent_for R.sheet

      all : rows_held (take run.kept rows) ≡ rows_in_lem run.kept output
      all = ap (λ r. rows_held (take run.kept r)) e ∙ held_are run.kept (length output / 5) output (omega (arith, rows_left.held))

      held : rows_of L.pass (map_in L) ≡ rows_held (take run.kept rows)
      held = sym (all ∙ rows_are L R.called.answer R.called.output_left refl)

      long : run.kept ≡ length (take run.kept rows)
      long = sym (sym (length-map (take run.kept rows) (λ row. row_at row 0)) ∙ ap length all ∙ rows-length run.kept output)
