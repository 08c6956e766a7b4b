-- The converter of old sheets: what it answers to every input, and what it leaves in the list lent to it. Quotations are of document 02, request 12, where no other
-- document is named. Assumes nothing.
use Rattle.std.specs.Prelude.{ℕ, ◌≡◌, Bool, true, false, ◌&&◌, cond, List, [], ◌∷◌, length, leb, eqb}
use Rattle.definitions.specs.Refusals.{unless, pass_fault, spans_refusal, boundaries_fault, anchors_fault, elevations_fault}
use Rattle.definitions.specs.Verdict.{Answer, refusal, first_refusal}
use Rattle.definitions.specs.SheetNumber.{Read, found, failed, number}
use Rattle.definitions.specs.Sheet.{endpoints_of, Sheet, Reading, well_formed, refused, read_sheet, plain_cell_limit}
use Rattle.map_sheets.specs.SheetBytes.{sheet_bytes}
use Rattle.map_sheets.specs.Writing.{written_at_exit}

-- ---- which sheets

-- "the converter refuses any other kind as 14": at the kind's first byte, once it is read, whatever follows it
abbrev pub of_kind1 : Read ℕ → Reading → Reading
of_kind1 (found kind offset rest) reading = cond (eqb kind 1) reading (refused 14 0)
of_kind1 (failed refusal place) reading = reading

unfoldable pub read_kind1 : List ℕ → Reading
unfolding number read_sheet
read_kind1 bytes = of_kind1 (number 0 bytes) (read_sheet plain_cell_limit bytes)

unfoldable pub same_numbers : List ℕ → List ℕ → Bool
same_numbers [] [] = true
same_numbers [] (y ∷ m) = false
same_numbers (x ∷ l) [] = false
same_numbers (x ∷ l) (y ∷ m) = eqb x y && same_numbers l m

-- "with equal lists"; document 01: "one list when equally many, with the same endpoints entry by entry as written"
unfoldable pub is_one_list : Sheet → Bool
unfolding same_numbers endpoints_of
is_one_list s = same_numbers s.spans (endpoints_of s.boundaries)

-- ---- the answer

-- "22 for a kind 1 sheet that cannot be converted, after 14 and 1 to 9 and before 10": what is left to ask of a sheet that was read. 2 cannot come from a sheet.
unfoldable pub convert_answer : Reading → ℕ → Answer
unfolding spans_refusal boundaries_fault anchors_fault elevations_fault is_one_list sheet_bytes
convert_answer (well_formed s) room =
    let w = s.width in
    let h = s.height in
    let size = length (sheet_bytes 3 s) in
    first_refusal
    (refusal 4 (pass_fault s.pass)
    ∷ spans_refusal w h s.spans
    ∷ refusal 7 (boundaries_fault w h s.boundaries)
    ∷ refusal 8 (anchors_fault w h s.anchors)
    ∷ refusal 9 (elevations_fault s.cells)
    ∷ refusal 22 (unless (is_one_list s))
    ∷ refusal 10 (unless (leb size room))
    ∷ [])
    size
convert_answer (refused number place) room = record { number = number; value = place }

unfoldable pub convert_verdict : List ℕ → ℕ → Answer
unfolding read_kind1 convert_answer
convert_verdict bytes room = convert_answer (read_kind1 bytes) room

-- the same map as a sheet of kind 3
unfoldable pub converted_bytes : Reading → List ℕ
unfolding sheet_bytes
converted_bytes (well_formed s) = sheet_bytes 3 s
converted_bytes (refused number place) = []

-- the answer of the converter to a sheet's bytes and a lent list, and the list at exit
pub record Converts (bytes lent : List ℕ) (answer : Answer) (lent' : List ℕ) : Type 0 where
  pub said : answer ≡ convert_verdict bytes (length lent)
  pub left : lent' ≡ written_at_exit answer.number (converted_bytes (read_kind1 bytes)) lent
