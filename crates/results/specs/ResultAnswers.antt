-- What the reader and the writer of result sheets answer, for every input, what they leave in the lists lent to them, and the bytes of a result.
-- Quotations are of document 02, request 1, where no other document is named. Assumes nothing.
use Rattle.std.specs.Prelude.{ℕ, zero, suc, ◌/◌, ◌%◌, ◌≡◌, Bool, ◌&&◌, cond, List, [], ◌∷◌, ◌++◌, map, length, take, drop, leb, eqb, Option, None, Some}
use Rattle.definitions.specs.Limits.{tallies_per_span, numbers_per_pair, numbers_per_row}
use Rattle.definitions.specs.Lists.{overwrite}
use Rattle.definitions.specs.SheetNumber.{Read, found, failed}
use Rattle.definitions.specs.Refusals.{unless}
use Rattle.definitions.specs.Verdict.{Answer, refusal, first_refusal}
use Rattle.results.specs.Shortest.{shortest, list_bytes}
use Rattle.results.specs.Result.{Result, Entry, Placed, result_of, result, rules_fault}

-- ---- the reader

pub data ResultReading : Type 0 where
  well_formed : Result → ResultReading
  refused : ℕ → ℕ → ResultReading

abbrev pub judged_by : Option ℕ → Result → ResultReading
judged_by None r = well_formed r
judged_by (Some place) r = refused 15 place

-- "directly after 14": the rules are asked of a sheet that is well formed to its end
unfoldable pub reading : Read Placed → ResultReading
unfolding rules_fault
reading (found p offset rest) = judged_by (rules_fault p) (result_of p)
reading (failed number place) = refused number place

unfoldable pub read_result : List ℕ → ResultReading
unfolding result reading
read_result bytes = reading (result 0 bytes)

-- 10, of lent lists of these lengths, last
abbrev pub room_for : ResultReading → ℕ → ℕ → ℕ → ℕ → ResultReading
room_for (well_formed r) labels tallies pairs rows =
    cond (leb (length r.labels) labels && leb (length r.tallies) tallies && leb (length r.pairs) pairs && leb (length r.rows) rows) (well_formed r)
    (refused 10 0)
room_for (refused number place) labels tallies pairs rows = refused number place

unfoldable pub read_verdict : List ℕ → ℕ → ℕ → ℕ → ℕ → ResultReading
unfolding read_result
read_verdict bytes labels tallies pairs rows = room_for (read_result bytes) labels tallies pairs rows

-- what a lent list holds at exit, where `part` is what of the result it is lent for
abbrev pub at_exit : (Result → List ℕ) → ResultReading → List ℕ → List ℕ
at_exit part (well_formed r) lent = overwrite (part r) lent
at_exit part (refused number place) lent = lent

-- ---- the writer

-- "Write, in shortest form, a sheet of kind 2"
unfoldable pub result_bytes : Result → List ℕ
unfolding shortest list_bytes
result_bytes r =
    shortest 2 ++ shortest r.regions ++ list_bytes 1 r.labels ++ list_bytes tallies_per_span r.tallies ++ list_bytes numbers_per_pair r.pairs
    ++ list_bytes numbers_per_row r.rows

-- the first n entries of a flat list, each of so many numbers
unfoldable pub chunks : ℕ → ℕ → List ℕ → List (List ℕ)
chunks zero size l = []
chunks (suc n) size l = take size l ∷ chunks n size (drop size l)

-- the whole entries of a list; "from the writer at place 0"
unfoldable pub entries_in : ℕ → List ℕ → List Entry
unfolding chunks
entries_in size l = map (λ numbers. record { place = 0; numbers = numbers }) (chunks (length l / size) size l)

unfoldable pub placed : Result → Placed
unfolding entries_in
placed r =
    record {
      regions_place = 0;
      regions = r.regions;
      labels = entries_in 1 r.labels;
      tallies = entries_in tallies_per_span r.tallies;
      pairs = entries_in numbers_per_pair r.pairs;
      rows = entries_in numbers_per_row r.rows;
    }

-- document 01, number 3: "a last entry unfinished"
abbrev pub is_finished : Result → Bool
is_finished r = eqb (length r.tallies % tallies_per_span) 0 && eqb (length r.pairs % numbers_per_pair) 0 && eqb (length r.rows % numbers_per_row) 0

-- 15, 3, 10, for a lent list of so many bytes; success gives how many bytes were written
unfoldable pub write_verdict : Result → ℕ → Answer
unfolding rules_fault placed result_bytes
write_verdict r room =
    let size = length (result_bytes r) in
    first_refusal (refusal 15 (rules_fault (placed r)) ∷ refusal 3 (unless (is_finished r)) ∷ refusal 10 (unless (leb size room)) ∷ []) size

abbrev pub written_at_exit : ℕ → Result → List ℕ → List ℕ
written_at_exit zero r lent = overwrite (result_bytes r) lent
written_at_exit (suc number) r lent = lent

-- the answer of the writer to a result and a lent list, and the list at exit
pub record Writes (r : Result) (lent : List ℕ) (answer : Answer) (lent' : List ℕ) : Type 0 where
  pub said : answer ≡ write_verdict r (length lent)
  pub left : lent' ≡ written_at_exit answer.number r lent
