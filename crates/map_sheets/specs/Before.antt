-- Old sheets "still read and still get the answer they had" (document 02, request 12): bytes that begin with kind 1 read exactly as by the grammar of before the
-- request, which knew no other kind. Assumes nothing.
use Rattle.std.specs.Prelude.{ℕ, ◌≡◌, refl, List, eqb}
use Rattle.definitions.specs.Limits.{numbers_per_span, numbers_per_boundary, numbers_per_anchor}
use Rattle.definitions.specs.SheetNumber.{found, number}
use Rattle.definitions.specs.Sheet.{Reader, give, ◌>>=◌, times, judged, kind, cell, area, entries, end, Sheet, Reading, reading, sheet, read_sheet}

-- document 01: "In order: kind 1, pass, width, height, cells, span count, spans, boundary count, boundaries, anchor count, anchors."
unfoldable pub sheet_before : ℕ → Reader Sheet
unfolding judged number cell times entries
sheet_before cellLimit = do
  _ ← judged (λ value. eqb value 1)
  pass ← number
  width ← number
  height ← number
  count ← area cellLimit width height
  cells ← times count cell
  spans ← entries numbers_per_span
  boundaries ← entries numbers_per_boundary
  anchors ← entries numbers_per_anchor
  _ ← end
  give (record { pass = pass; width = width; height = height; cells = cells; spans = spans; boundaries = boundaries; anchors = anchors })

unfoldable pub read_before : ℕ → List ℕ → Reading
unfolding sheet_before
read_before cellLimit bytes = reading (sheet_before cellLimit 0 bytes)

pub kind_1-stays : (limit next : ℕ) (bytes rest : List ℕ) → number 0 bytes ≡ found 1 next rest → read_sheet limit bytes ≡ read_before limit bytes
unfolding read_sheet read_before sheet sheet_before kind judged
kind_1-stays limit next bytes rest h = rw h refl
