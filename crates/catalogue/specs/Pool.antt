-- The maps of a day, each with the accession record that stood in the catalogue then. Quotations are of document 02, request 8.
-- Assumes nothing; entries of the lists are 64-bit numbers, of any size.
use Rattle.std.specs.Prelude.{ℕ, zero, suc, ◌/◌, ◌&&◌, cond, List, [], ◌∷◌, length, eqb, ltb, leb, Option, None, Some}
use Rattle.definitions.specs.Lists.{overwrite}
use Rattle.definitions.specs.Scan.{only_if, collect, concat_map}
use Rattle.definitions.specs.Sort.{sort}
use Rattle.definitions.specs.Refusals.{unless}
use Rattle.definitions.specs.Verdict.{Answer, refusal, first_refusal}
use Rattle.catalogue.specs.Dates.{Date, day_of}
use Rattle.catalogue.specs.Terms.{term_at, term_count, is_finished, days_of, contains, terms_refusal}
use Rattle.catalogue.specs.Accession.{Accession, accession_at, accession_count, accessions_fault}
use Rattle.catalogue.specs.Accession as accession

-- ---- the maps

-- the map's number of each term that has the day, in the order of the terms. A map has at most one such term, since its terms do not overlap.
unfoldable pub maps_in : List ℕ → ℕ → List ℕ
unfolding collect term_at days_of
maps_in terms day = collect (term_count terms) (λ i. only_if (contains day (days_of (term_at terms i))) (term_at terms i).on_map)

-- "List all maps of a day, by number, each once."
unfoldable pub maps_of_day : List ℕ → ℕ → List ℕ
unfolding sort maps_in
maps_of_day terms day = sort ltb (maps_in terms day)

-- ---- a map's entry

-- "the newest accession record of that day or earlier": of the first n records the last one of the map that has such a day
unfoldable pub newest : List ℕ → ℕ → ℕ → ℕ → Option Accession
unfolding accession_at
newest records on_map day zero = None
newest records on_map day (suc i) =
    let r = accession_at records i in
    let before = newest records on_map day i in
    cond (eqb r.on_map on_map && leb r.day day) (Some r) before

-- "A map's entry shows [it], or says that none exists": map number, and own number, day and number superseded of the record. Own numbers are above 0, so that
-- an own number of 0 says that there is none.
abbrev pub entry_of : ℕ → Option Accession → List ℕ
entry_of on_map None = on_map ∷ 0 ∷ 0 ∷ 0 ∷ []
entry_of on_map (Some r) = on_map ∷ r.own ∷ r.day ∷ r.superseded ∷ []

abbrev pub numbers_per_entry : ℕ
numbers_per_entry = 4

-- the entries of maps, over the first n records
unfoldable pub entries_of : List ℕ → ℕ → ℕ → List ℕ → List ℕ
unfolding concat_map newest
entries_of records day n maps = concat_map (λ m. entry_of m (newest records m day n)) maps

-- what is listed for the day asked for; none where its date is bad
abbrev pub entries_on : List ℕ → List ℕ → Option ℕ → List ℕ
entries_on terms records None = []
entries_on terms records (Some day) = entries_of records day (accession_count records) (maps_of_day terms day)

-- ---- the operation

-- "a bad day asked for is 18 at the number of terms"
abbrev pub asked_fault : List ℕ → Option ℕ → Option ℕ
asked_fault terms None = Some (term_count terms)
asked_fault terms (Some day) = None

-- 3 for a last entry unfinished, 17, 18 and 19 term by term, 18 for the day asked for, "last but for 10", which an output of this length has room for or not;
-- success gives the count of maps
unfoldable pub pool_verdict : List ℕ → List ℕ → Date → ℕ → Answer
unfolding accessions_fault terms_refusal day_of entries_of maps_of_day
pool_verdict terms records asked output =
    let entries = entries_on terms records (day_of asked) in
    let terms-refused = terms_refusal terms in
    let records-refused = refusal 17 (accessions_fault records) in
    first_refusal
    (refusal 3 (unless (is_finished terms && accession.is_finished records))
    ∷ records-refused
    ∷ terms-refused
    ∷ refusal 18 (asked_fault terms (day_of asked))
    ∷ refusal 10 (unless (leb (length entries) output))
    ∷ [])
    (length entries / numbers_per_entry)

-- the output at exit, by the answer's number
abbrev pub pool_at_exit : ℕ → List ℕ → List ℕ → Date → List ℕ → List ℕ
pool_at_exit zero terms records asked output = overwrite (entries_on terms records (day_of asked)) output
pool_at_exit (suc number) terms records asked output = output
