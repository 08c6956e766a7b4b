-- A call that met the contract of the pass: what it answered and left in the output is the run that the report's definition adds for what it was lent. Assumes nothing.
use Rattle.std.proofs.Common.{◌≡◌, ℕ, zero, suc, ◌/◌, ◌%◌, ◌≤◌, Bool, true, false, not, ◌&&◌, eqb, leb, List, length, drop, sym, refl, ap, ◌∙◌, subst, arith, length-append, leb-true}
use Rattle.definitions.specs.Limits.{max_entries, numbers_per_span, numbers_per_boundary, numbers_per_anchor}
use Rattle.definitions.specs.Lists.{overwrite}
use Rattle.definitions.specs.Scan.{to_list, only_if, member}
use Rattle.definitions.specs.Sort.{list_lt}
use Rattle.definitions.specs.Grid.{Map, at, canonical, boundary_of}
use Rattle.definitions.specs.Context.{context_of}
use Rattle.definitions.specs.Rows.{Row, row_key, rows_from, removed_of, rows_of, flat_rows}
use Rattle.definitions.specs.Refusals.{is_whole}
use Rattle.definitions.specs.Verdict.{Lent, Answer, map_in, verdict}
use Rattle.definitions.specs.AtExit.{stage_of, exit_with, call_exit}
use Rattle.laws.specs.ListLaws.Lists.{All, done, more}
use Rattle.laws.specs.ListLaws.Tests.{both}
use Rattle.laws.specs.ListLaws.NoFault.{no_fault_lem}
use Rattle.laws.specs.ListLaws.Members.{all_default}
use Rattle.laws.specs.ListLaws.ScansOfAll.{collect-below}
use Rattle.laws.specs.OrderLaws.StableSort.{all-sort}
use Rattle.laws.specs.ListLaws.FlatRows.{flat-length, row_in, rows_in_lem, rows_of-flat}
use Rattle.laws.specs.FloatLaws.Pixels.{PixelSegment, canonical-pixel}
use Rattle.laws.specs.FloatLaws.MapPixels.{OnMap, map-pixel}
use Rattle.laws.specs.TableLaws.AcceptedCalls.{accepted, accepted-count}
use Rattle.laws.specs.TableLaws.KeptRows.{boundary_count_lem, rows_few}
use Rattle.laws.specs.RustPasses.Accepted.{accepted-on_map}
use Rattle.report.specs.Runs.{accepted_run, squared_lengths, figures_from, figures_of, accepted_of, run_by, run_of}
use Rattle.report.specs.ReportLaws.Named.{unnamed_below, removed-unnamed}
use Rattle.report_figures.specs.Forms.{RowsOnMap}
use Rattle.report_figures.specs.Calls.{call_run, CallLeft}

-- ---- their lines lie on the map

rows-on_map : (pass : ℕ) (M : Map) → OnMap M → All (λ r. PixelSegment r.line) (rows_of pass M)
unfolding rows_of rows_from context_of
rows-on_map pass M h =
    all-sort (λ r. PixelSegment r.line) (λ r s. list_lt (row_key r) (row_key s))
    (collect-below (λ r. PixelSegment r.line) (λ i. only_if (not (member i (removed_of pass M))) (row i)) (length M.boundaries)
    (λ i l. one i (not (member i (removed_of pass M)))))
  where
    row : ℕ → Row
    row i = record { number = i; line = canonical (boundary_of M i).endpoints }

    one : (i : ℕ) (b : Bool) → All (λ r. PixelSegment r.line) (to_list (only_if b (row i)))
    one i true = more (canonical-pixel ((map-pixel h).ends i)) done
    one i false = done

-- ---- the call

module _ (L : Lent) {a : Answer} {o : List ℕ} (A : a ≡ verdict L) (O : o ≡ (call_exit L a.number).output) where
  module _ (h : a.number ≡ 0) where
    abbrev rows : List Row
    rows = rows_of L.pass (map_in L)

    none_refused : (verdict L).number ≡ 0
    none_refused = ap (λ x. x.number) (sym A) ∙ h

    counted : a.value ≡ length rows
    counted = ap (λ x. x.value) A ∙ accepted-count L none_refused

    output_is : o ≡ overwrite (flat_rows rows) L.output
    unfolding call_exit exit_with stage_of
    output_is = O ∙ ap (λ n. (call_exit L n).output) h

    pub rows_are : rows_in_lem a.value o ≡ rows
    rows_are = ap (λ n. rows_in_lem n o) counted ∙ ap (rows_in_lem (length rows)) output_is ∙ rows_of-flat rows (drop (length (flat_rows rows)) L.output)

    boundaries-few : length L.boundaries / numbers_per_boundary ≤ max_entries
    boundaries-few =
        let lists = both (is_whole numbers_per_span L.spans && is_whole numbers_per_boundary L.boundaries) (is_whole numbers_per_anchor L.anchors) (accepted L none_refused).whole in
        let whole = both (is_whole numbers_per_span L.spans) (is_whole numbers_per_boundary L.boundaries) lists.0 in
        leb-true (length L.boundaries / numbers_per_boundary) max_entries
        (both (eqb (length L.boundaries % numbers_per_boundary) 0) (leb (length L.boundaries / numbers_per_boundary) max_entries) whole.1).1

    abbrev nowhere : Row
    nowhere = record { number = 0; line = record { a = at 0 0; b = at 0 0 } }

    on_map_lem : RowsOnMap a.value o
    on_map_lem =
        record {
          few = omega (arith, counted, rows_few L.pass (map_in L), boundary_count_lem L, boundaries-few);
          held = omega (arith, counted, ap length output_is ∙ length-append (flat_rows rows) (drop (length (flat_rows rows)) L.output), flat-length rows);
          lines = λ k l.
              subst (λ r. PixelSegment r.line) (row_in a.value o nowhere k l)
              (all_default {P = λ r. PixelSegment r.line} nowhere (record { first = record { x-le = omega arith; y-le = omega arith }; second = record { x-le = omega arith; y-le = omega arith } })
              (subst (All (λ r. PixelSegment r.line)) (sym rows_are) (rows-on_map L.pass (map_in L) (accepted-on_map L none_refused))) k);
        }

    is_pass : (1 ≤ L.pass) × (L.pass ≤ 3)
    is_pass =
        let p = both (leb 1 L.pass) (leb L.pass 3) (no_fault_lem (leb 1 L.pass && leb L.pass 3) 0 (accepted L none_refused).pass) in
        (leb-true 1 L.pass p.0, leb-true L.pass 3 p.1)

  -- what adding it asks
  pub call-left : CallLeft L.pass a.number a.value o
  call-left h = ((is_pass h).0, (is_pass h).1, on_map_lem h)

  -- what is added
  pub call-added : (count : ℕ) → count ≡ length L.boundaries / numbers_per_boundary → call_run L.pass a.number a.value count o ≡ run_of L
  unfolding run_of run_by accepted_of figures_of figures_from
  call-added count e = go a.number refl ∙ ap (λ x. run_by x.number L) A
    where
      go : (n : ℕ) → a.number ≡ n → call_run L.pass n a.value count o ≡ run_by n L
      go (suc n) h = refl
      go zero h =
          let R = rows_of L.pass (map_in L) in
          let boundaries : count ≡ length (map_in L).boundaries = e ∙ sym (boundary_count_lem L) in
          let removed : unnamed_below count (rows_in_lem a.value o) ≡ (figures_of L.pass (map_in L)).removed =
          ap (unnamed_below count) (rows_are h) ∙ ap (λ n. unnamed_below n R) boundaries ∙ sym (removed-unnamed L.pass (map_in L)) in
          λ i. accepted_run L.pass (record { accepted = 1; boundaries = boundaries i; kept = counted h i; removed = removed i }) (squared_lengths (rows_are h i))
