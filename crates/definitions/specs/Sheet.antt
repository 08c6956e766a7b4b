-- The sheet: what a list of bytes holds or why it is refused, and what the operation that only reads answers and leaves in the lists lent to it.
-- A sheet of kind 1 holds spans of its own; in one of kind 3 the boundaries serve as spans. Quotations are of document 01, 'The sheet and the printed list',
-- where no other place is named; 'request 12' is of document 02. Assumes nothing.
use Rattle.std.specs.Prelude.{ℕ, zero, suc, ◌*◌, ◌/◌, Bool, true, false, ◌&&◌, ◌||◌, cond, List, [], ◌∷◌, length, leb, eqb}
use Rattle.definitions.specs.Limits.{is_side, max_entries, numbers_per_span, numbers_per_boundary, numbers_per_anchor}
use Rattle.definitions.specs.Lists.{overwrite}
use Rattle.definitions.specs.Scan.{gather}
use Rattle.definitions.specs.Grid.{Segment, segment_at}
use Rattle.definitions.specs.SheetNumber.{Read, found, failed, number}

-- ---- the limits

-- the plain reader limits the cells no further than the sides do
abbrev pub plain_cell_limit : ℕ
plain_cell_limit = 1_048_576

-- "`keptlist` reads a sheet of at most 4,096 cells"
abbrev pub keptlist_cell_limit : ℕ
keptlist_cell_limit = 4_096

-- ---- readers, and how one follows another

-- from an offset and the bytes that stand there
abbrev pub Reader : Type 0 → Type 0
Reader A = ℕ → List ℕ → Read A

module _ {A : Type 0} where
  abbrev pub give : A → Reader A
  give value offset bytes = found value offset bytes

  -- go on with the value where the test holds, else refuse with this number and place
  abbrev pub check : Bool → ℕ → ℕ → A → Reader A
  check true refusal place value offset bytes = found value offset bytes
  check false refusal place value offset bytes = failed refusal place

module _ {A B : Type 0} where
  -- "nothing further is then read": behind a refusal no reader is asked
  abbrev pub and_then : Read A → (A → Reader B) → Read B
  and_then (found value offset rest) next = next value offset rest
  and_then (failed refusal place) next = failed refusal place

  -- what `do` puts between its lines: a line `x ← r` runs the reader r, calls its value x, and the next line reads on behind it; the first failure ends all
  abbrev pub ◌>>=◌ : Reader A → (A → Reader B) → Reader B
  ◌>>=◌ reader next offset bytes = and_then (reader offset bytes) next

-- the same n times
unfoldable pub times : ℕ → Reader ℕ → Reader (List ℕ)
times zero item = give []
times (suc n) item = do
  value ← item
  values ← times n item
  give (value ∷ values)

-- ---- the parts of a sheet

-- "a kind other than 1 and a cell over 255 are refused 14 at their first byte", once they are read; request 12 adds kind 3
unfoldable pub judged : (ℕ → Bool) → Reader ℕ
unfolding number
judged ok offset bytes = and_then (number offset bytes) (λ value. check (ok value) 14 offset value)

-- the kinds of a sheet that states a map
abbrev pub is_map_kind : ℕ → Bool
is_map_kind kind = eqb kind 1 || eqb kind 3

unfoldable pub kind : Reader ℕ
unfolding judged
kind = judged is_map_kind

unfoldable pub cell : Reader ℕ
unfolding judged
cell = judged (λ value. leb value 255)

-- The number of cells: "a side outside 1 to 1,024 [goes] to check 1 once both sides are read";
-- of `keptlist`'s own limit, "More is `refused 1 at 0`, once both sides are read."
abbrev pub area : ℕ → ℕ → ℕ → Reader ℕ
area cellLimit width height = check (is_side width && is_side height && leb (width * height) cellLimit) 1 0 (width * height)

-- A count and its entries, each of so many numbers: "A count over 256 goes to check 3 before its entries are read"
unfoldable pub entries : ℕ → Reader (List ℕ)
unfolding number times
entries size = do
  written ← number
  count ← check (leb written max_entries) 3 0 written
  times (count * size) number

-- Request 12: kind 3 is "kind 1 without span count and spans"
abbrev pub has_spans : ℕ → Bool
has_spans kind = eqb kind 1

-- the span count and the spans, where the sheet has them
abbrev pub spans_held : Bool → Reader (List ℕ)
spans_held true = entries numbers_per_span
spans_held false = give []

abbrev pub endpoints : Segment → List ℕ
endpoints s = s.a.x ∷ s.a.y ∷ s.b.x ∷ s.b.y ∷ []

-- the endpoints of the first boundaries, so many of them, as written
unfoldable pub endpoints_in : ℕ → List ℕ → List ℕ
unfolding gather
endpoints_in count boundaries = gather count (λ i. endpoints (segment_at boundaries (numbers_per_boundary * i)))

unfoldable pub endpoints_of : List ℕ → List ℕ
unfolding endpoints_in
endpoints_of boundaries = endpoints_in (length boundaries / numbers_per_boundary) boundaries

-- Request 12: "the boundaries serving as spans, which reading fills from them", where the sheet has none of its own
abbrev pub spans_stated : Bool → List ℕ → List ℕ → List ℕ
spans_stated true spans boundaries = spans
spans_stated false spans boundaries = endpoints_of boundaries

-- "Bytes left over make refusal 14, at the first of them."
abbrev pub end : Reader (Unit {0})
end offset [] = found tt offset []
end offset (b ∷ rest) = failed 14 offset

-- ---- the sheet

-- The last three lists are flat (document 01, 'Lists lent and filled'): four numbers a span, nine a boundary, two an anchor.
pub record Sheet : Type 0 where
  pub pass : ℕ
  pub width : ℕ
  pub height : ℕ
  pub cells : List ℕ
  pub spans : List ℕ
  pub boundaries : List ℕ
  pub anchors : List ℕ

-- "In order: kind 1, pass, width, height, cells, span count, spans, boundary count, boundaries, anchor count, anchors."
unfoldable pub sheet : ℕ → Reader Sheet
unfolding kind number cell times entries endpoints_of
sheet cellLimit = do
  written ← kind
  pass ← number
  width ← number
  height ← number
  count ← area cellLimit width height
  cells ← times count cell
  spans ← spans_held (has_spans written)
  boundaries ← entries numbers_per_boundary
  anchors ← entries numbers_per_anchor
  _ ← end
  give
      (record {
        pass = pass;
        width = width;
        height = height;
        cells = cells;
        spans = spans_stated (has_spans written) spans boundaries;
        boundaries = boundaries;
        anchors = anchors;
      })

-- what the bytes hold, or the number and the place of their refusal
pub data Reading : Type 0 where
  well_formed : Sheet → Reading
  refused : ℕ → ℕ → Reading

abbrev pub reading : Read Sheet → Reading
reading (found s offset rest) = well_formed s
reading (failed refusal place) = refused refusal place

-- the whole of the bytes, from offset 0
unfoldable pub read_sheet : ℕ → List ℕ → Reading
unfolding sheet
read_sheet cellLimit bytes = reading (sheet cellLimit 0 bytes)

-- ---- reading alone

-- "10, the last when one of these is too short", for lent lists of these lengths
abbrev pub room_for : Reading → ℕ → ℕ → ℕ → ℕ → Reading
room_for (well_formed s) cells spans boundaries anchors =
    cond (leb (length s.cells) cells && leb (length s.spans) spans && leb (length s.boundaries) boundaries && leb (length s.anchors) anchors)
    (well_formed s) (refused 10 0)
room_for (refused refusal place) cells spans boundaries anchors = refused refusal place

-- "Reading alone fills lent lists of cells, spans, boundaries and anchors and gives only 14, 1, 3 and 10": what it answers
-- to these bytes where the lent lists have these lengths
unfoldable pub read_verdict : List ℕ → ℕ → ℕ → ℕ → ℕ → Reading
unfolding read_sheet
read_verdict bytes cells spans boundaries anchors = room_for (read_sheet plain_cell_limit bytes) cells spans boundaries anchors

-- 'Lists lent and filled': "Success returns 0", a refusal its number and its place. Beside 0 the paper names no value for reading alone: it is 0.
abbrev pub reading_number : Reading → ℕ
reading_number (well_formed s) = 0
reading_number (refused refusal place) = refusal

abbrev pub reading_place : Reading → ℕ
reading_place (well_formed s) = 0
reading_place (refused refusal place) = place

-- What a lent list holds at exit, where `part` is what of the sheet it is lent for; the table of refusals leaves all lists as they were.
abbrev pub at_exit : (Sheet → List ℕ) → Reading → List ℕ → List ℕ
at_exit part (well_formed s) lent = overwrite (part s) lent
at_exit part (refused refusal place) lent = lent
