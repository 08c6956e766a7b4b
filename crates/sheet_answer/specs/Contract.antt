-- What a sheet is answered that is read and run as `keptlist` does it. Definitions only; assumes nothing.
use Rattle.std.specs.Prelude.{ℕ, ◌*◌, ◌/◌, ◌≤◌, ◌≡◌, cond, List, length, take, ltb, Result, Ok, Err}
use Rattle.definitions.specs.Limits.{max_entries, numbers_per_span, numbers_per_boundary, numbers_per_anchor}
use Rattle.definitions.specs.Sheet.{Sheet, Reading, well_formed, refused, read_sheet, keptlist_cell_limit}
use Rattle.definitions.specs.Verdict.{Answer, verdict}
use Rattle.definitions.specs.AtExit.{call_exit}
use Rattle.definitions.specs.Printed.{max_sheet_bytes, lent_for}
use Rattle.refusals.specs.Answers.{answer_of}
use Rattle.refusals.specs.declared.Refusal.{Refusal}
use Rattle.sheet.specs.declared.Header.{Header}
use Rattle.sheet_answer.specs.declared.runs.SheetRun.{SheetRun}

-- what the program makes of its bytes: "A sheet over 65,536 bytes is `refused 14 at 65536` before any other check."
unfoldable pub keptlist_reading : List ℕ → Reading
unfolding read_sheet
keptlist_reading bytes = cond (ltb max_sheet_bytes (length bytes)) (refused 14 max_sheet_bytes) (read_sheet keptlist_cell_limit bytes)

-- lists of these lengths have room for every sheet within the limits
pub record ListsLong (cells spans boundaries anchors : ℕ) : Type 0 where
  pub for_cells : keptlist_cell_limit ≤ cells
  pub for_spans : numbers_per_span * max_entries ≤ spans
  pub for_boundaries : numbers_per_boundary * max_entries ≤ boundaries
  pub for_anchors : numbers_per_anchor * max_entries ≤ anchors

-- ---- a sheet in lists

-- a sheet from its parts
abbrev pub sheet_from : ℕ → ℕ → ℕ → List ℕ → List ℕ → List ℕ → List ℕ → Sheet
sheet_from pass width height cells spans boundaries anchors =
    record { pass = pass; width = width; height = height; cells = cells; spans = spans; boundaries = boundaries; anchors = anchors }

-- the sheet that lists begin with, as its header says
abbrev pub sheet_in : Header → List ℕ → List ℕ → List ℕ → List ℕ → Sheet
sheet_in header cells spans boundaries anchors =
    sheet_from header.pass header.width header.height (take (header.width * header.height) cells) (take (numbers_per_span * header.spans) spans)
    (take (numbers_per_boundary * header.boundaries) boundaries) (take (numbers_per_anchor * header.anchors) anchors)

-- n counts entries at the start of a list. The second part follows from the first; where a list is cut there, both are asked.
abbrev pub Inside : ℕ → List ℕ → Type 0
Inside n l = (n ≤ length l) × (n ≡ length (take n l))

-- the lists are as long as the header says, and within the limits
pub record SheetHeld (header : Header) (cells spans boundaries anchors : List ℕ) : Type 0 where
  pub cells-few : header.width * header.height ≤ keptlist_cell_limit
  pub spans-few : header.spans ≤ max_entries
  pub boundaries-few : header.boundaries ≤ max_entries
  pub anchors-few : header.anchors ≤ max_entries
  pub cells-inside : Inside (header.width * header.height) cells
  pub spans-inside : Inside (numbers_per_span * header.spans) spans
  pub boundaries-inside : Inside (numbers_per_boundary * header.boundaries) boundaries
  pub anchors-inside : Inside (numbers_per_anchor * header.anchors) anchors

-- ---- what is answered

-- the call was lent what the program lends for a sheet
pub record SheetCalled (s : Sheet) (a : Answer) (output : List ℕ) : Type 0 where
  pub answer : a ≡ verdict (lent_for s)
  pub output_left : output ≡ (call_exit (lent_for s) a.number).output

-- what is answered to a reading: why it is no sheet, or what the call answers
unfoldable pub reading_answer : Reading → Answer
unfolding verdict lent_for
reading_answer (well_formed s) = verdict (lent_for s)
reading_answer (refused number place) = record { number = number; value = place }

-- so many boundaries were kept of a sheet that was read
abbrev pub kept_of : Result SheetRun Refusal → Result ℕ Refusal
kept_of (Ok run) = Ok run.kept
kept_of (Err refusal) = Err refusal

-- the sheet of a run, and what its call left
pub record RunOf (reading : Reading) (run : SheetRun) (output : List ℕ) : Type 0 where
  pub sheet : Sheet
  pub read : reading ≡ well_formed sheet
  pub pass_is : run.pass ≡ sheet.pass
  pub counted : run.boundaries ≡ length sheet.boundaries / numbers_per_boundary
  pub called : SheetCalled sheet (record { number = 0; value = run.kept }) output

pub record SheetRan (reading : Reading) (ran : Result SheetRun Refusal) (output : List ℕ) : Type 0 where
  pub answer : answer_of (kept_of ran) ≡ reading_answer reading
  pub run_of : (run : SheetRun) → ran ≡ Ok run → RunOf reading run output
