-- A result that was read is the bytes that would be written for it (`read-written`), so that two accepted result sheets are equal bytes exactly when they
-- state the same result (document 02, requests 1 and 3: "for both kinds"). What is assumed: the bytes are below 256.
use Rattle.std.specs.Prelude.{ℕ, zero, suc, ◌*◌, ◌/◌, ◌≡◌, refl, ◌↔◌, List, [], ◌∷◌, ◌++◌, length, get_or, Option, None, Some}
use Rattle.std.proofs.Common.{arith, sym, ap, ◌∙◌, append_assoc, append-nil, length-append}
use Rattle.definitions.specs.Limits.{tallies_per_span, numbers_per_pair, numbers_per_row}
use Rattle.definitions.specs.Scan.{concat_map}
use Rattle.definitions.specs.SheetNumber.{Read, found, failed, number}
use Rattle.definitions.specs.Sheet.{give, and_then, times, judged}
use Rattle.laws.specs.SheetReading.SheetSizes.{Gives, gives_any, gives_value, gives_then, gives_times}
use Rattle.results.specs.Shortest.{shortest, list_bytes}
use Rattle.results.specs.Result.{Result, Entry, Placed, result_of, kind, entry, times_entry, entries, result, rules_fault}
use Rattle.results.specs.ResultAnswers.{well_formed, refused, judged_by, reading, read_result, result_bytes}
use Rattle.sheets_equal.specs.NumberBytes.{Bytes}
use Rattle.sheets_equal.proofs.ReaderBytes.{Reads, reads-number, reads-give, reads_then, reads_times, reads_exactly, reads_end, Ends, ends-then, ends-end}

-- ---- an entry and a list of entries

reads-kind : Reads [] kind (λ _. shortest 2)
unfolding kind judged
reads-kind = reads_exactly 2

-- an entry's place is where it was read
reads-entry : (size : ℕ) → Reads [] (entry size) (λ e. concat_map shortest e.numbers)
unfolding entry
reads-entry size = record { whole = λ offset bytes B h. (at offset).whole offset bytes B h }
  where
    at : (offset : ℕ) → Reads [] (λ here bytes. and_then (times size number here bytes) (λ numbers. give (record { place = offset; numbers = numbers }))) (λ (e : Entry). concat_map shortest e.numbers)
    at offset =
        reads_then [] (times size number) (λ numbers. give (record { place = offset; numbers = numbers })) (concat_map shortest) (λ e. concat_map shortest e.numbers) (reads_times number shortest reads-number size)
        (λ numbers. reads-give (concat_map shortest numbers) (λ e. concat_map shortest e.numbers) (record { place = offset; numbers = numbers }) refl)

gives_entry : (size : ℕ) → Gives (entry size) (λ e. length e.numbers ≡ size)
unfolding entry
gives_entry size = record { holds = λ offset bytes h. (at offset).holds offset bytes h }
  where
    at : (offset : ℕ) → Gives (λ here bytes. and_then (times size number here bytes) (λ numbers. give (record { place = offset; numbers = numbers }))) (λ (e : Entry). length e.numbers ≡ size)
    at offset = gives_then (times size number) _ _ _ (gives_times size number) (λ numbers long. gives_value (λ e. length e.numbers ≡ size) (record { place = offset; numbers = numbers }) long)

-- the numbers of the entries, one after the other
abbrev pub numbers_of : List Entry → List ℕ
numbers_of es = concat_map (λ e. e.numbers) es

concat-append : (l m : List ℕ) → concat_map shortest (l ++ m) ≡ concat_map shortest l ++ concat_map shortest m
unfolding concat_map
concat-append [] m = refl
concat-append (x ∷ l) m = ap (λ r. shortest x ++ r) (concat-append l m) ∙ sym (append_assoc (shortest x) (concat_map shortest l) (concat_map shortest m))

reads-numbers : (n size : ℕ) → Reads [] (times_entry n size) (λ es. concat_map shortest (numbers_of es))
unfolding times_entry concat_map
reads-numbers zero size = reads-give [] (λ es. concat_map shortest (numbers_of es)) [] refl
reads-numbers (suc n) size =
    reads_then [] (entry size) _ (λ e. concat_map shortest e.numbers) (λ es. concat_map shortest (numbers_of es)) (reads-entry size)
    (λ e. reads_then (concat_map shortest e.numbers) (times_entry n size) (λ l. give (e ∷ l)) (λ es. concat_map shortest (numbers_of es)) (λ es. concat_map shortest (numbers_of es)) (reads-numbers n size)
    (λ l. reads-give (concat_map shortest e.numbers ++ concat_map shortest (numbers_of l)) (λ es. concat_map shortest (numbers_of es)) (e ∷ l) (sym (concat-append e.numbers (numbers_of l)))))

gives_numbers : (n size : ℕ) → Gives (times_entry n size) (λ es. length (numbers_of es) ≡ n * size)
unfolding times_entry concat_map
gives_numbers zero size = gives_value (λ es. length (numbers_of es) ≡ zero * size) [] (omega arith)
gives_numbers (suc n) size =
    gives_then (entry size) _ _ _ (gives_entry size)
    (λ e here. gives_then (times_entry n size) (λ l. give (e ∷ l)) _ _ (gives_numbers n size)
    (λ l left. gives_value (λ es. length (numbers_of es) ≡ suc n * size) (e ∷ l) (length-append e.numbers (numbers_of l) ∙ omega (arith, here, left))))

-- a list has whole entries
pub gives_list : (size : ℕ) → Gives (entries size) (λ es. (n : ℕ) × (length (numbers_of es) ≡ n * size))
unfolding entries
gives_list size = gives_then number _ _ _ (gives_any number) (λ count _. record { holds = λ offset bytes h. (count, (gives_numbers count size).holds offset bytes h) })

-- the count that was written is that of the entries
reads-entries : (size : ℕ) → ((n : ℕ) → n * size / size ≡ n) → Reads [] (entries size) (λ es. list_bytes size (numbers_of es))
unfolding entries list_bytes
reads-entries size exact = reads_then [] number (λ count. times_entry count size) shortest (λ es. list_bytes size (numbers_of es)) reads-number counted
  where
    counted : (n : ℕ) → Reads (shortest n) (times_entry n size) (λ es. list_bytes size (numbers_of es))
    counted n = record { whole = λ offset bytes B h. go offset bytes B h }
      where
        go : (offset : ℕ) (bytes : List ℕ) → Bytes bytes → {es : List Entry} {next : ℕ} {rest : List ℕ} → times_entry n size offset bytes ≡ found es next rest
            → shortest n ++ bytes ≡ shortest (length (numbers_of es) / size) ++ concat_map shortest (numbers_of es) ++ rest
        go offset bytes B {es} {next} {rest} h =
            let count : n ≡ length (numbers_of es) / size = sym (ap (λ m. m / size) ((gives_numbers n size).holds offset bytes h) ∙ exact n) in
            ap (λ m. shortest n ++ m) ((reads-numbers n size).whole offset bytes B h) ∙ sym (append_assoc (shortest n) (concat_map shortest (numbers_of es)) rest)
            ∙ ap (λ m. shortest m ++ concat_map shortest (numbers_of es) ++ rest) count

-- ---- the sheet

-- the region count is one number
reads-regions : Reads [] (entry 1) (λ e. shortest (get_or e.numbers 0 0))
unfolding concat_map
reads-regions = record { whole = λ offset bytes B h. go offset bytes B h }
  where
    single : (l : List ℕ) → length l ≡ 1 → concat_map shortest l ≡ shortest (get_or l 0 0)
    single [] h = absurd (omega arith)
    single (x ∷ []) h = append-nil (shortest x)
    single (x ∷ y ∷ l) h = absurd (omega arith)

    go : (offset : ℕ) (bytes : List ℕ) → Bytes bytes → {e : Entry} {next : ℕ} {rest : List ℕ} → entry 1 offset bytes ≡ found e next rest → bytes ≡ shortest (get_or e.numbers 0 0) ++ rest
    go offset bytes B {e} {next} {rest} h = (reads-entry 1).whole offset bytes B h ∙ ap (λ l. l ++ rest) (single e.numbers ((gives_entry 1).holds offset bytes h))

abbrev made : Entry → List Entry → List Entry → List Entry → List Entry → Placed
made count labels tallies pairs rows =
    record { regions_place = count.place; regions = get_or count.numbers 0 0; labels = labels; tallies = tallies; pairs = pairs; rows = rows }

abbrev placed_bytes : Placed → List ℕ
placed_bytes p = result_bytes (result_of p)

reads-result : Reads [] result placed_bytes
unfolding result result_bytes
reads-result =
    reads_then [] kind _ (λ _. shortest 2) placed_bytes reads-kind
    (λ _. reads_then _ (entry 1) _ (λ e. shortest (get_or e.numbers 0 0)) placed_bytes reads-regions
    (λ count. reads_then _ (entries 1) _ (λ es. list_bytes 1 (numbers_of es)) placed_bytes (reads-entries 1 (λ n. omega arith))
    (λ labels. reads_then _ (entries tallies_per_span) _ (λ es. list_bytes tallies_per_span (numbers_of es)) placed_bytes (reads-entries tallies_per_span (λ n. omega arith))
    (λ tallies. reads_then _ (entries numbers_per_pair) _ (λ es. list_bytes numbers_per_pair (numbers_of es)) placed_bytes (reads-entries numbers_per_pair (λ n. omega arith))
    (λ pairs. reads_then _ (entries numbers_per_row) _ (λ es. list_bytes numbers_per_row (numbers_of es)) placed_bytes (reads-entries numbers_per_row (λ n. omega arith))
    (λ rows. reads_end _ (λ _. give (made count labels tallies pairs rows)) placed_bytes (reads-give _ placed_bytes (made count labels tallies pairs rows) refl)))))))

ends-result : Ends result
unfolding result
ends-result =
    ends-then kind _ (λ _. ends-then (entry 1) _ (λ count. ends-then (entries 1) _ (λ labels. ends-then (entries tallies_per_span) _ (λ tallies.
    ends-then (entries numbers_per_pair) _ (λ pairs. ends-then (entries numbers_per_row) _ (λ rows. ends-end (made count labels tallies pairs rows)))))))

-- a result that was read is the bytes that would be written for it
pub read-written : (bytes : List ℕ) {r : Result} → Bytes bytes → read_result bytes ≡ well_formed r → bytes ≡ result_bytes r
unfolding read_result reading
read-written bytes {r} B h = go (result 0 bytes) refl h
  where
    not-refused : {number place : ℕ} → refused number place ≡ well_formed r → ⊥
    not-refused q = let z : ◌≡◌ {A = ℕ} 0 1 = cc in omega arith

    -- the rules, which were kept, do not alter what is stated
    kept : (fault : Option ℕ) (t : Result) → judged_by fault t ≡ well_formed r → t ≡ r
    kept None t q = cc
    kept (Some place) t q = absurd (not-refused q)

    go : (read : Read Placed) → result 0 bytes ≡ read → reading read ≡ well_formed r → bytes ≡ result_bytes r
    go (found p next rest) e q =
        reads-result.whole 0 bytes B e ∙ ap (λ l. placed_bytes p ++ l) (ends-result.empty 0 bytes e) ∙ append-nil (placed_bytes p)
        ∙ ap result_bytes (kept (rules_fault p) (result_of p) q)
    go (failed number place) e q = absurd (not-refused q)

-- so two result sheets are equal bytes exactly when they state the same result
pub results_equal : (a b : List ℕ) {r t : Result} → Bytes a → Bytes b → read_result a ≡ well_formed r → read_result b ≡ well_formed t → (a ≡ b) ↔ (r ≡ t)
results_equal a b {r} {t} A B g h = (λ e. states e, λ e. read-written a A g ∙ ap result_bytes e ∙ sym (read-written b B h))
  where
    states : a ≡ b → r ≡ t
    states e =
        let q : well_formed r ≡ well_formed t = sym g ∙ ap read_result e ∙ h in
        cc
