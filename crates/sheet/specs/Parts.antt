-- The sheet's grammar in three parts, one behind the other, and what the functions on them answer. Assumes nothing.
use Rattle.std.specs.Prelude.{ℕ, ◌*◌, ◌/◌, ◌≤◌, ◌≡◌, Bool, false, ◌&&◌, cond, List, [], length, drop, leb, Result, Ok, Err}
use Rattle.definitions.specs.Limits.{numbers_per_span, numbers_per_boundary, numbers_per_anchor}
use Rattle.definitions.specs.SheetNumber.{Read, found, failed, number}
use Rattle.definitions.specs.Sheet.{Reader, give, ◌>>=◌, times, kind, is_map_kind, cell, area, entries, has_spans, spans_held, spans_stated, end, Sheet, well_formed, refused, read_sheet}
use Rattle.sheet.specs.Numbers.{values_at, Held}
use Rattle.refusals.specs.declared.Refusal.{Refusal}
use Rattle.refusals.specs.declared.Cause.TheVariants as cause
use Rattle.refusals.specs.Refusals as refusals
use Rattle.sheet.specs.declared.Found.{Found}
use Rattle.sheet.specs.declared.Kind.{Kind}
use Rattle.sheet.specs.declared.Kind.TheVariants as kinds
use Rattle.sheet.specs.declared.Heading.{Heading}
use Rattle.sheet.specs.declared.Extent.{Extent}
use Rattle.sheet.specs.declared.Part.{Part}
use Rattle.sheet.specs.declared.Parts.{Parts}
use Rattle.sheet.specs.declared.Plan.{Plan}

-- ---- the parts

-- the number of a kind
abbrev pub kind_number : Kind → ℕ
kind_number kinds.OwnSpans = 1
kind_number kinds.SharedSpans = 3

-- the kind of this number, or its refusal at the first byte
abbrev pub KindAsked : ℕ → Result Kind Refusal → Type 0
KindAsked number (Ok kind) = kind_number kind ≡ number
KindAsked number (Err refusal) = (is_map_kind number ≡ false) × (refusal ≡ record { cause = cause.Sheet; place = 0 })

-- the kind and the pass, as numbers
pub record Opening : Type 0 where
  pub kind : ℕ
  pub pass : ℕ

unfoldable pub opening : Reader Opening
unfolding kind number
opening = do
  written ← kind
  pass ← number
  give (record { kind = written; pass = pass })

abbrev pub opened_of : List ℕ → Result (Found Heading) Refusal → Read Opening
opened_of bytes (Ok read) = found (record { kind = kind_number read.value.kind; pass = read.value.pass }) read.next (drop read.next bytes)
opened_of bytes (Err refusal) = failed (refusals.number_of refusal.cause) refusal.place

-- both sides, and how many cells they make
unfoldable pub sides : ℕ → Reader Extent
unfolding number
sides cellLimit = do
  width ← number
  height ← number
  count ← area cellLimit width height
  give (record { width = width; height = height; cells = count })

pub record Content : Type 0 where
  pub cells : List ℕ
  pub spans : List ℕ
  pub boundaries : List ℕ
  pub anchors : List ℕ

-- so many cells, the lists, with spans or without, and nothing behind them
unfoldable pub lists : Bool → ℕ → Reader Content
unfolding times cell entries
lists own count = do
  cells ← times count cell
  spans ← spans_held own
  boundaries ← entries numbers_per_boundary
  anchors ← entries numbers_per_anchor
  _ ← end
  give (record { cells = cells; spans = spans; boundaries = boundaries; anchors = anchors })

-- ---- what is answered of each

-- the numbers that stand there
abbrev pub part_of : List ℕ → Part → List ℕ
part_of bytes part = values_at number bytes part.first part.count

-- what a reader of a list finds: its numbers stand there
pub record PartHeld (reader : Reader (List ℕ)) (bytes : List ℕ) (at : ℕ) (part : Part) (next : ℕ) : Type 0 where
  pub held : Held number bytes part.first part.count
  pub same : reader at (drop at bytes) ≡ found (part_of bytes part) next (drop next bytes)

abbrev pub PartTold : Reader (List ℕ) → List ℕ → ℕ → Result (Found Part) Refusal → Type 0
PartTold reader bytes at (Ok read) = PartHeld reader bytes at read.value read.next
PartTold reader bytes at (Err refusal) = reader at (drop at bytes) ≡ failed (refusals.number_of refusal.cause) refusal.place

abbrev pub cells_in : List ℕ → Parts → List ℕ
cells_in bytes parts =
    let part = parts.cells in
    values_at cell bytes part.first part.count

abbrev pub content_of : List ℕ → Parts → Content
content_of bytes parts =
    record {
      cells = cells_in bytes parts;
      spans = part_of bytes parts.spans;
      boundaries = part_of bytes parts.boundaries;
      anchors = part_of bytes parts.anchors;
    }

-- the cells and the lists stand where they were found: what is asked before they are stored
pub record PartsHeld (bytes : List ℕ) (parts : Parts) : Type 0 where
  pub cells : Held cell bytes parts.cells.first parts.cells.count
  pub spans : Held number bytes parts.spans.first parts.spans.count
  pub boundaries : Held number bytes parts.boundaries.first parts.boundaries.count
  pub anchors : Held number bytes parts.anchors.first parts.anchors.count

-- the cells end where the spans' count begins, and the spans where that of the boundaries does
pub record SpansStand (own : Bool) (bytes : List ℕ) (at count : ℕ) (parts : Parts) : Type 0 where
  pub cells-end : times count cell at (drop at bytes) ≡ found (cells_in bytes parts) parts.front (drop parts.front bytes)
  pub spans-end : spans_held own parts.front (drop parts.front bytes)
      ≡ found (part_of bytes parts.spans) parts.back (drop parts.back bytes)
  pub cells-inside : parts.front ≤ length bytes
  pub spans-inside : parts.back ≤ length bytes

pub record ListsHeld (own : Bool) (bytes : List ℕ) (at count : ℕ) (parts : Parts) : Type 0 where
  pub held : PartsHeld bytes parts
  pub same : lists own count at (drop at bytes) ≡ found (content_of bytes parts) (length bytes) []
  pub spans_stand : SpansStand own bytes at count parts

abbrev pub ListsTold : Bool → List ℕ → ℕ → ℕ → Result Parts Refusal → Type 0
ListsTold own bytes at count (Ok parts) = ListsHeld own bytes at count parts
ListsTold own bytes at count (Err refusal) = lists own count at (drop at bytes) ≡ failed (refusals.number_of refusal.cause) refusal.place

-- ---- the sheet

abbrev pub sheet_of : List ℕ → Plan → Sheet
sheet_of bytes plan =
    let parts = plan.parts in
    record {
      pass = plan.pass;
      width = plan.width;
      height = plan.height;
      cells = cells_in bytes parts;
      spans = spans_stated (has_spans (kind_number plan.kind)) (part_of bytes parts.spans) (part_of bytes parts.boundaries);
      boundaries = part_of bytes parts.boundaries;
      anchors = part_of bytes parts.anchors;
    }

-- where the parts begin and end
pub record SheetStands (cellLimit : ℕ) (bytes : List ℕ) (plan : Plan) : Type 0 where
  pub behind-pass : ℕ
  pub cells_first : ℕ
  pub opened : opening 0 bytes ≡ found (record { kind = kind_number plan.kind; pass = plan.pass }) behind-pass (drop behind-pass bytes)
  pub sided : sides cellLimit behind-pass (drop behind-pass bytes)
      ≡ found (record { width = plan.width; height = plan.height; cells = plan.width * plan.height }) cells_first (drop cells_first bytes)
  pub spans_stand : SpansStand (has_spans (kind_number plan.kind)) bytes cells_first (plan.width * plan.height) plan.parts

pub record SheetHeld (cellLimit : ℕ) (bytes : List ℕ) (plan : Plan) : Type 0 where
  pub held : PartsHeld bytes plan.parts
  pub same : read_sheet cellLimit bytes ≡ well_formed (sheet_of bytes plan)
  pub stands : SheetStands cellLimit bytes plan

abbrev pub SheetTold : ℕ → List ℕ → Result Plan Refusal → Type 0
SheetTold cellLimit bytes (Ok plan) = SheetHeld cellLimit bytes plan
SheetTold cellLimit bytes (Err refusal) = read_sheet cellLimit bytes ≡ refused (refusals.number_of refusal.cause) refusal.place

-- how many numbers the spans have that such a sheet states
abbrev pub stated_long : ℕ → Parts → ℕ
stated_long kind parts = cond (has_spans kind) parts.spans.count (numbers_per_span * (parts.boundaries.count / numbers_per_boundary))

-- lists of these lengths have room for all of it, where the spans have `stated` numbers
abbrev pub room_in : Parts → ℕ → ℕ → ℕ → ℕ → ℕ → Bool
room_in parts stated cells spans boundaries anchors =
    leb parts.cells.count cells && leb stated spans && leb parts.boundaries.count boundaries && leb parts.anchors.count anchors

pub record Room (parts : Parts) (stated cells spans boundaries anchors : ℕ) : Type 0 where
  pub for_cells : parts.cells.count ≤ cells
  pub for_spans : stated ≤ spans
  pub for_boundaries : parts.boundaries.count ≤ boundaries
  pub for_anchors : parts.anchors.count ≤ anchors
