-- Words of the crate's contracts: which kind is refused, the first refusal of a map that a sheet states, and the sheet with its spans cut out. Definitions only;
-- assumes nothing.
use Rattle.std.specs.Prelude.{ℕ, ◌+◌, ◌-◌, ◌≤◌, ◌≡◌, Bool, false, not, List, ◌++◌, eqb, length, take, drop, Option}
use Rattle.definitions.specs.Refusals.{Refusal, or_else, unless, pass_fault, spans_refusal, boundaries_fault, anchors_fault, elevations_fault}
use Rattle.definitions.specs.Verdict.{Answer, refusal}
use Rattle.definitions.specs.SheetNumber.{Read, found, failed}
use Rattle.definitions.specs.Sheet.{endpoints_of, Sheet, well_formed}
use Rattle.sheet.specs.declared.Plan.{Plan}
use Rattle.sheet.specs.Parts.{sheet_of}
use Rattle.results.specs.Shortest.{shortest}
use Rattle.map_sheets.specs.SheetBytes.{sheet_bytes}
use Rattle.map_sheets.specs.Writing.{written_at_exit}
use Rattle.map_sheets.specs.Converting.{same_numbers, convert_answer}

-- a kind that is read and is not 1
abbrev pub is_other : Read ℕ → Bool
is_other (found kind offset rest) = not (eqb kind 1)
is_other (failed refusal place) = false

-- checks 5 to 8
unfoldable pub lists_refusal : ℕ → ℕ → List ℕ → List ℕ → List ℕ → Option Refusal
unfolding spans_refusal boundaries_fault anchors_fault
lists_refusal w h spans boundaries anchors = or_else (spans_refusal w h spans) (or_else (refusal 7 (boundaries_fault w h boundaries)) (refusal 8 (anchors_fault w h anchors)))

-- checks 4 to 9, then 22
unfoldable pub map_refusal : ℕ → ℕ → ℕ → List ℕ → List ℕ → List ℕ → List ℕ → Option Refusal
unfolding lists_refusal elevations_fault same_numbers endpoints_of
map_refusal pass w h cells spans boundaries anchors =
    or_else (refusal 4 (pass_fault pass))
    (or_else (lists_refusal w h spans boundaries anchors)
    (or_else (refusal 9 (elevations_fault cells)) (refusal 22 (unless (same_numbers spans (endpoints_of boundaries))))))

abbrev pub refusal_for : Sheet → Option Refusal
refusal_for s = map_refusal s.pass s.width s.height s.cells s.spans s.boundaries s.anchors

-- what is cut out lies behind the kind and inside the bytes, and there is room for the rest
pub record Cut (front back : ℕ) (bytes : List ℕ) (room : ℕ) : Type 0 where
  pub begun : 1 ≤ front
  pub ordered : front ≤ back
  pub inside : back ≤ length bytes
  pub fits : front + (length bytes - back) ≤ room

-- kind 3 in place of the first byte, and nothing of what stands between the two offsets
unfoldable pub cut_out : ℕ → ℕ → List ℕ → List ℕ
unfolding shortest
cut_out front back bytes = shortest 3 ++ take (front - 1) (drop 1 bytes) ++ drop back bytes

-- the answer of the converter to a sheet that was found, and the lent list at exit
pub record ConvertsPlan (bytes : List ℕ) (plan : Plan) (lent : List ℕ) (answer : Answer) (lent' : List ℕ) : Type 0 where
  pub said : answer ≡ convert_answer (well_formed (sheet_of bytes plan)) (length lent)
  pub left : lent' ≡ written_at_exit answer.number (sheet_bytes 3 (sheet_of bytes plan)) lent
