-- The line of an own number, and the operation that reports it: its answer, and what it leaves in the lent output. Quotations are of document 02, request 7.
-- Assumes nothing.
use Rattle.std.specs.Prelude.{ℕ, zero, suc, ◌*◌, Bool, ◌&&◌, List, [], ◌∷◌, ◌++◌, length, eqb, leb}
use Rattle.definitions.specs.Lists.{overwrite}
use Rattle.definitions.specs.Scan.{any_below_lem, only_if, collect, concat_map}
use Rattle.definitions.specs.Refusals.{unless}
use Rattle.definitions.specs.Verdict.{Answer, refusal, first_refusal}
use Rattle.catalogue.specs.Accession.{Accession, numbers_per_accession, flat_accession, accession_at, accession_count, is_finished, on_same_map, accessions_fault}

-- the last before the first
unfoldable pub reversed : {A : Type 0} → List A → List A
reversed [] = []
reversed (x ∷ l) = reversed l ++ (x ∷ [])

-- "every record of its map": record i is of the map that a record with this own number has
unfoldable pub on_line_of : List ℕ → ℕ → ℕ → Bool
unfolding any_below_lem on_same_map accession_at
on_line_of l own i = any_below_lem (accession_count l) (λ j. eqb (accession_at l j).own own && on_same_map l i j)

-- "the whole line of an own number: every record of its map, newest first, or none for an unknown number"
unfoldable pub line_of : List ℕ → ℕ → List Accession
unfolding reversed collect on_line_of accession_at
line_of l own = reversed (collect (accession_count l) (λ i. only_if (on_line_of l own i) (accession_at l i)))

unfoldable pub flat_line : List Accession → List ℕ
unfolding concat_map
flat_line line = concat_map flat_accession line

-- ---- the operation

-- 3 for a last entry unfinished, 17, and 10 where an output of this length has no room for the line; success gives the count of records in the line
unfoldable pub line_verdict : List ℕ → ℕ → ℕ → Answer
unfolding accessions_fault line_of
line_verdict l own output =
    let count = length (line_of l own) in
    first_refusal
    (refusal 3 (unless (is_finished l))
    ∷ refusal 17 (accessions_fault l)
    ∷ refusal 10 (unless (leb (numbers_per_accession * count) output))
    ∷ [])
    count

-- the output at exit: on success the line, and beyond it what stood there; a refusal leaves all
abbrev pub line_at_exit : ℕ → List ℕ → ℕ → List ℕ → List ℕ
line_at_exit zero l own output = overwrite (flat_line (line_of l own)) output
line_at_exit (suc number) l own output = output
