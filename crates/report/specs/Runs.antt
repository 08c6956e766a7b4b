-- What one run adds to the year's figures: a call of a pass, or a sheet that is read and run as `keptlist` does it. Quotations are of document 02, request 13.
-- Assumes nothing.
use Rattle.std.specs.Prelude.{ℕ, zero, suc, ◌+◌, ◌*◌, ◌-◌, cond, List, [], ◌∷◌, length, leb, ltb}
use Rattle.definitions.specs.Scan.{count_below, member}
use Rattle.definitions.specs.Grid.{Map, Segment}
use Rattle.definitions.specs.Rows.{Row, removed_of, rows_of}
use Rattle.definitions.specs.Verdict.{Lent, map_in, verdict}
use Rattle.definitions.specs.Sheet.{Reading, well_formed, refused, read_sheet, keptlist_cell_limit}
use Rattle.definitions.specs.Printed.{max_sheet_bytes, lent_for}

-- of accepted runs of a pass: how many, and of these "boundaries in, kept, removed"
pub record Figures : Type 0 where
  pub accepted : ℕ
  pub boundaries : ℕ
  pub kept : ℕ
  pub removed : ℕ

-- refused with this number; or accepted: its pass, the figures of this one run, and the squared lengths of its rows
pub data Run : Type 0 where
  refused_run : ℕ → Run
  accepted_run : ℕ → Figures → ℕ → Run

-- ---- lengths

-- the distance of two numbers, squared
abbrev pub square_apart : ℕ → ℕ → ℕ
square_apart a b = cond (leb a b) ((b - a) * (b - a)) ((a - b) * (a - b))

abbrev pub squared_length : Segment → ℕ
squared_length s = square_apart s.a.x s.b.x + square_apart s.a.y s.b.y

-- "squared lengths of kept rows, in square pixels"
unfoldable pub squared_lengths : List Row → ℕ
squared_lengths [] = 0
squared_lengths (r ∷ l) = squared_length r.line + squared_lengths l

-- ---- an accepted run

-- of so many boundaries, so many rows, and the numbers of the boundaries that go, each of which counts once: no figure is reckoned from the two others
unfoldable pub figures_from : ℕ → ℕ → List ℕ → Figures
unfolding count_below member
figures_from boundaries kept gone = record { accepted = 1; boundaries = boundaries; kept = kept; removed = count_below boundaries (λ i. member i gone) }

-- "Boundaries in is counted from the maps of accepted runs and not from the other two": the map's boundaries, the rows kept, the boundaries that the pass removes
unfoldable pub figures_of : ℕ → Map → Figures
unfolding figures_from rows_of removed_of
figures_of pass M = figures_from (length M.boundaries) (length (rows_of pass M)) (removed_of pass M)

unfoldable pub accepted_of : ℕ → Map → Run
unfolding figures_of rows_of squared_lengths
accepted_of pass M = accepted_run pass (figures_of pass M) (squared_lengths (rows_of pass M))

-- ---- a call of a pass, and a sheet

-- by the number that the call answers
unfoldable pub run_by : ℕ → Lent → Run
unfolding accepted_of map_in
run_by zero L = accepted_of L.pass (map_in L)
run_by (suc number) L = refused_run (suc number)

-- a call that was lent this
unfoldable pub run_of : Lent → Run
unfolding verdict run_by
run_of L = run_by (verdict L).number L

-- what `keptlist` makes of its bytes: document 01, "A sheet over 65,536 bytes is `refused 14 at 65536` before any other check."
unfoldable pub sheet_reading : List ℕ → Reading
unfolding read_sheet
sheet_reading bytes = cond (ltb max_sheet_bytes (length bytes)) (refused 14 max_sheet_bytes) (read_sheet keptlist_cell_limit bytes)

unfoldable pub reading_run : Reading → Run
unfolding run_of lent_for
reading_run (well_formed s) = run_of (lent_for s)
reading_run (refused number place) = refused_run number

-- a sheet of these bytes, read and run with what `keptlist` lends
unfoldable pub sheet_run : List ℕ → Run
unfolding reading_run sheet_reading
sheet_run bytes = reading_run (sheet_reading bytes)
