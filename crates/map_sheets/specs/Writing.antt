-- The writer of sheets, which "gives only kind 3, in shortest form": what it answers to every input, and what it leaves in the list lent to it. Quotations are of
-- document 02, request 12. Assumes nothing.
use Rattle.std.specs.Prelude.{ℕ, zero, suc, ◌≡◌, ◌&&◌, List, [], ◌∷◌, length, leb}
use Rattle.definitions.specs.Limits.{numbers_per_boundary, numbers_per_anchor}
use Rattle.definitions.specs.Lists.{overwrite}
use Rattle.definitions.specs.Refusals.{unless, sides_fault, cells_fault, is_whole}
use Rattle.definitions.specs.Verdict.{Answer, refusal, first_refusal}
use Rattle.definitions.specs.Sheet.{endpoints_of, Sheet}
use Rattle.map_sheets.specs.SheetBytes.{sheet_bytes}

-- what is to be stated: "the boundaries serving as spans"
unfoldable pub stating : ℕ → ℕ → ℕ → List ℕ → List ℕ → List ℕ → Sheet
unfolding endpoints_of
stating pass width height cells boundaries anchors =
    record {
      pass = pass;
      width = width;
      height = height;
      cells = cells;
      spans = endpoints_of boundaries;
      boundaries = boundaries;
      anchors = anchors;
    }

-- "it refuses 1, 2, 3 and 10 only", all at place 0: any pass and any entries are written. Success gives how many bytes were written.
unfoldable pub write_verdict : Sheet → ℕ → Answer
unfolding sheet_bytes
write_verdict s room =
    let size = length (sheet_bytes 3 s) in
    first_refusal
    (refusal 1 (sides_fault s.width s.height)
    ∷ refusal 2 (cells_fault s.width s.height s.cells)
    ∷ refusal 3 (unless (is_whole numbers_per_boundary s.boundaries && is_whole numbers_per_anchor s.anchors))
    ∷ refusal 10 (unless (leb size room))
    ∷ [])
    size

-- document 01's table: a refusal leaves the lent list as it was
abbrev pub written_at_exit : ℕ → List ℕ → List ℕ → List ℕ
written_at_exit zero bytes lent = overwrite bytes lent
written_at_exit (suc number) bytes lent = lent

-- the answer of the writer to what is to be stated and a lent list, and the list at exit
pub record Writes (s : Sheet) (lent : List ℕ) (answer : Answer) (lent' : List ℕ) : Type 0 where
  pub said : answer ≡ write_verdict s (length lent)
  pub left : lent' ≡ written_at_exit answer.number (sheet_bytes 3 s) lent
