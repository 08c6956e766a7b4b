-- The cases of SPECIFICATION 16 and 18 that run a pass on a map, over calls: a call that was lent such a map and met the contract with number 0 holds these rows in its output,
-- whatever lists it was lent to fill. The cases themselves are computed. Assumes nothing.
use Rattle.std.specs.Prelude.{ℕ, ◌≡◌, refl, List, [], ◌∷◌}
use Rattle.std.proofs.Common.{ap₂, ◌∙◌}
use Rattle.definitions.specs.Grid.{Map}
use Rattle.definitions.specs.RegionRecord.{Region}
use Rattle.definitions.specs.Rows.{Row, rows_of}
use Rattle.definitions.specs.Verdict.{Lent, Answer, map_in}
use Rattle.definitions.specs.Cases.{three_cells, four_cells}
use Rattle.definitions.specs.CaseJ.{map_j, row, rows_j}
use Rattle.call_partition.specs.Contract.{Ran}
use Rattle.island_calls.specs.Outputs.{rows_held}
use Rattle.island_calls.specs.RowsAtExit.{rows_held_lem}

three_cells_lem : rows_of 1 three_cells ≡ row 1 16 0 16 8 ∷ []
unfolding rows_of three_cells
three_cells_lem = refl

four_cells_lem : rows_of 2 four_cells ≡ row 0 8 0 8 8 ∷ row 2 24 0 24 8 ∷ []
unfolding rows_of four_cells
four_cells_lem = refl

-- a call: lent, answer, and at exit labels, masks, queue, tallies, pairs, records and output
module _
    {L : Lent} {a : Answer} {l m q t p : List ℕ} {s : List Region} {o : List ℕ}
    (ran : Ran L a l m q t p s o) (success : a.number ≡ 0) where
  case_rows : (pass : ℕ) (M : Map) {rows : List Row} → rows_of pass M ≡ rows → L.pass ≡ pass → map_in L ≡ M → rows_held a o ≡ rows
  case_rows pass M computed onPass on_map = rows_held_lem ran success ∙ ap₂ rows_of onPass on_map ∙ computed

  -- "three cells in a row [..]: pass 1 removes the first"
  pub three_cells-held : L.pass ≡ 1 → map_in L ≡ three_cells → rows_held a o ≡ row 1 16 0 16 8 ∷ []
  three_cells-held = case_rows 1 three_cells three_cells_lem

  -- "four cells of elevation 0 [..]: pass 2 removes the middle"
  pub four_cells-held : L.pass ≡ 2 → map_in L ≡ four_cells → rows_held a o ≡ row 0 8 0 8 8 ∷ row 2 24 0 24 8 ∷ []
  four_cells-held = case_rows 2 four_cells four_cells_lem

  -- "Whole case J"
  pub case_j-held : L.pass ≡ 3 → map_in L ≡ map_j → rows_held a o ≡ row 1 8 8 8 16 ∷ row 2 8 8 16 8 ∷ row 4 16 16 24 16 ∷ row 3 24 8 24 16 ∷ []
  case_j-held = case_rows 3 map_j rows_j
