-- What reading alone answers, and what it leaves in the lists that are lent to it. Assumes nothing.
use Rattle.std.specs.Prelude.{ℕ, ◌/◌, ◌≡◌, refl, List, length, Result, Ok, Err}
use Rattle.definitions.specs.Limits.{numbers_per_span, numbers_per_boundary, numbers_per_anchor}
use Rattle.definitions.specs.Refusals.{Refusal}
use Rattle.definitions.specs.Sheet.{Sheet, Reading, well_formed, refused, read_sheet, reading_number, reading_place, room_for, at_exit}
use Rattle.sheet.specs.declared.Plan.{Plan}
use Rattle.sheet.specs.declared.Header.{Header}
use Rattle.refusals.specs.Refusals.{refusal_of}
use Rattle.refusals.specs.declared.Refusal as code

-- the pass, both sides, and how many spans, boundaries and anchors there are
abbrev pub header_of : Sheet → Header
header_of s =
    record {
      pass = s.pass;
      width = s.width;
      height = s.height;
      spans = length s.spans / numbers_per_span;
      boundaries = length s.boundaries / numbers_per_boundary;
      anchors = length s.anchors / numbers_per_anchor;
    }

-- what is answered to a reading: the header, or the refusal by its number
abbrev pub answer_of : Reading → Result Header Refusal
answer_of (well_formed s) = Ok (header_of s)
answer_of (refused refusal place) = Err (record { number = refusal; place = place })

-- an answer whose refusal is given by its number
abbrev pub by_number : Result Header code.Refusal → Result Header Refusal
by_number (Ok header) = Ok header
by_number (Err refusal) = Err (refusal_of refusal)

-- the number and place (SPECIFICATION 4) of an answer: "Success returns 0"
abbrev pub answer_number : Result Header Refusal → ℕ
answer_number (Ok header) = 0
answer_number (Err refusal) = refusal.number

abbrev pub answer_place : Result Header Refusal → ℕ
answer_place (Ok header) = 0
answer_place (Err refusal) = refusal.place

pub answer_number_lem : (reading : Reading) → answer_number (answer_of reading) ≡ reading_number reading
answer_number_lem (well_formed s) = refl
answer_number_lem (refused refusal place) = refl

pub answer_place_lem : (reading : Reading) → answer_place (answer_of reading) ≡ reading_place reading
answer_place_lem (well_formed s) = refl
answer_place_lem (refused refusal place) = refl

-- the same header from where the lists stand, where the spans have `stated` numbers
abbrev pub header_in : Plan → ℕ → Header
header_in plan stated =
    let parts = plan.parts in
    record {
      pass = plan.pass;
      width = plan.width;
      height = plan.height;
      spans = stated / numbers_per_span;
      boundaries = parts.boundaries.count / numbers_per_boundary;
      anchors = parts.anchors.count / numbers_per_anchor;
    }

-- The answer to a reading, and each lent list at exit: "Reading alone fills lent lists of cells, spans, boundaries and anchors", and a refusal leaves them
-- as they were. Lists at entry come first, those at exit after the answer.
pub record Answered (reading : Reading) (cells spans boundaries anchors : List ℕ) (answer : Result Header code.Refusal) (cells' spans' boundaries' anchors' : List ℕ) : Type 0 where
  pub said : by_number answer ≡ answer_of reading
  pub cells_left : cells' ≡ at_exit (λ s. s.cells) reading cells
  pub spans-left : spans' ≡ at_exit (λ s. s.spans) reading spans
  pub boundaries-left : boundaries' ≡ at_exit (λ s. s.boundaries) reading boundaries
  pub anchors-left : anchors' ≡ at_exit (λ s. s.anchors) reading anchors

-- what reading alone makes of these bytes, where a sheet may have so many cells and the lent lists are these
abbrev pub reading_within : ℕ → List ℕ → List ℕ → List ℕ → List ℕ → List ℕ → Reading
reading_within cellLimit bytes cells spans boundaries anchors =
    room_for (read_sheet cellLimit bytes) (length cells) (length spans) (length boundaries) (length anchors)
