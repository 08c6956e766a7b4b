-- The premises of the theorem on two calls are met, with rows to compare: for each pass two calls on the two maps of crates/island/specs/Example.antt, the second with other lists to
-- fill than the first. Their outputs hold other rows, under other numbers; those of the island are alike. Computed; assumes nothing.
use Rattle.std.specs.Prelude.{ℕ, ◌≡◌, refl, Bool, List, [], ◌∷◌}
use Rattle.std.proofs.Common.{sym, ap, ◌∙◌}
use Rattle.definitions.specs.Scan.{member}
use Rattle.definitions.specs.Rows.{Row, rows_from, rows_of}
use Rattle.definitions.specs.Verdict.{Lent, map_in, verdict}
use Rattle.definitions.specs.CaseJ.{row}
use Rattle.island.specs.Premises.{cuts_island, rank_of, Alike, island_only}
use Rattle.island.specs.Example as maps
use Rattle.island.proofs.Example as met_maps
use Rattle.island_calls.specs.Outputs.{rows_held}
use Rattle.island_calls.specs.RowsAtExit.{rows_held_lem}
use Rattle.island_calls.specs.Theorem.{island_outputs}
use Rattle.island_calls.specs.Example.{exit, met, elsewhere, Shown}

shown : (L L' : Lent) (isl : ℕ → Bool) {held held' alike : List Row} → (verdict L).number ≡ 0 → (verdict L').number ≡ 0 → L.pass ≡ L'.pass → Alike (map_in L) (map_in L') isl → rows_of L.pass (map_in L) ≡ held → rows_of L'.pass (map_in L') ≡ held' → island_only (map_in L) isl held ≡ alike → Shown L L' isl held held' alike
shown L L' isl {held} {held'} ok ok' same premises rows rows' left =
    let holds : rows_held (verdict L) (exit L).output ≡ held = rows_held_lem (met L) ok ∙ rows in
    let holds' : rows_held (verdict L') (exit L').output ≡ held' = rows_held_lem (met L') ok' ∙ rows' in
    record {
      ran = met L;
      ran' = met L';
      success = ok;
      success' = ok';
      one_pass = same;
      premises = premises;
      holds = holds;
      holds' = holds';
      island = left;
      island' =
          ap (island_only (map_in L') isl) (sym holds') ∙ sym (island_outputs (met L) (met L') ok ok' same isl premises) ∙ ap (island_only (map_in L) isl) holds ∙ left;
    }

-- ---- pass 1

pub mouths : Shown maps.mouth (elsewhere maps.mouth') maps.behind_four (row 3 16 0 16 8 ∷ row 1 48 0 48 8 ∷ []) (row 0 8 0 8 8 ∷ row 2 48 0 48 8 ∷ []) (row 1 48 0 48 8 ∷ [])
unfolding elsewhere maps.mouth maps.mouth' map_in verdict rows_from member cuts_island rank_of
mouths =
    shown maps.mouth (elsewhere maps.mouth') maps.behind_four refl refl refl (met_maps.mouth-shown).premises (maps.rows-without 1 (map_in maps.mouth) maps.mouth-removes)
    (maps.rows-without 1 (map_in maps.mouth') maps.mouth'-removes) refl

-- ---- pass 2

pub interiors : Shown maps.interior (elsewhere maps.interior') maps.behind_four (row 3 8 0 8 8 ∷ row 4 16 0 16 8 ∷ row 0 40 0 40 8 ∷ row 2 56 0 56 8 ∷ []) (row 1 8 0 8 8 ∷ row 0 40 0 40 8 ∷ row 3 56 0 56 8 ∷ []) (row 0 40 0 40 8 ∷ row 2 56 0 56 8 ∷ [])
unfolding elsewhere maps.interior maps.interior' map_in verdict rows_from member cuts_island rank_of
interiors =
    shown maps.interior (elsewhere maps.interior') maps.behind_four refl refl refl (met_maps.interior-shown).premises (maps.rows-without 2 (map_in maps.interior) maps.interior-removes)
    (maps.rows-without 2 (map_in maps.interior') maps.interior'-removes) refl

-- ---- pass 3

pub junctions : Shown maps.junction (elsewhere maps.junction') maps.first_four (row 1 8 8 8 16 ∷ row 2 8 8 16 8 ∷ row 4 16 16 24 16 ∷ row 3 24 8 24 16 ∷ row 5 40 8 48 8 ∷ []) (row 2 8 8 8 16 ∷ row 3 8 8 16 8 ∷ row 5 16 16 24 16 ∷ row 4 24 8 24 16 ∷ row 0 40 16 48 16 ∷ []) (row 1 8 8 8 16 ∷ row 2 8 8 16 8 ∷ row 4 16 16 24 16 ∷ row 3 24 8 24 16 ∷ [])
unfolding elsewhere maps.junction maps.junction' map_in verdict rows_from member cuts_island rank_of
junctions =
    shown maps.junction (elsewhere maps.junction') maps.first_four refl refl refl (met_maps.junction-shown).premises (maps.rows-without 3 (map_in maps.junction) maps.junction-removes)
    (maps.rows-without 3 (map_in maps.junction') maps.junction'-removes) refl
