-- "A result that was written reads as itself" (document 02, request 1), over the definitions. Each reader gives back what was written, at any offset
-- (`Back`), part by part; the places of the entries then depend on the offset, and the rules do not ask for them (SameRules). Assumes nothing.
use Rattle.std.proofs.lemmas.List.{nil_from_length}
use Rattle.std.specs.Prelude.{ℕ, zero, suc, ◌+◌, ◌*◌, ◌/◌, ◌%◌, ◌^◌, ◌<◌, ◌≡◌, refl, List, [], ◌∷◌, ◌++◌, map, length, take, drop, get_or, None}
use Rattle.std.proofs.Common.{arith, sym, ap, ◌∙◌, append_assoc, append-nil, take-append-drop, length-drop, length-take-le}
use Rattle.definitions.specs.Limits.{tallies_per_span, numbers_per_pair, numbers_per_row}
use Rattle.definitions.specs.Scan.{concat_map}
use Rattle.definitions.specs.SheetNumber.{found, number}
use Rattle.definitions.specs.Sheet.{Reader, give, and_then, times, end}
use Rattle.laws.specs.ListLaws.Lists.{All, done, more}
use Rattle.laws.specs.SheetReading.SheetLaws.{then_found}
use Rattle.results.specs.Shortest.{shortest, list_bytes}
use Rattle.results.specs.ShortestReads.{number-shortest}
use Rattle.results.specs.Result.{Result, Entry, Placed, result_of, kind, entry, times_entry, entries, result, rules_fault}
use Rattle.results.specs.ResultAnswers.{well_formed, judged_by, reading, read_result, chunks, entries_in, placed, result_bytes}
use Rattle.results.proofs.SameRules.{numbers_in, same_rules}

-- numbers of 64 bits
abbrev pub Words : List ℕ → Type 0
Words l = All (λ n. n < 2 ^ 64) l

words_take : (n : ℕ) {l : List ℕ} → Words l → Words (take n l)
words_take zero w = done
words_take (suc n) done = done
words_take (suc n) (more h w) = more h (words_take n w)

words-drop : (n : ℕ) {l : List ℕ} → Words l → Words (drop n l)
words-drop zero w = w
words-drop (suc n) done = done
words-drop (suc n) (more h w) = words-drop n w

concat-append : (f : ℕ → List ℕ) (l m : List ℕ) → concat_map f (l ++ m) ≡ concat_map f l ++ concat_map f m
unfolding concat_map
concat-append f [] m = refl
concat-append f (x ∷ l) m = ap (λ r. f x ++ r) (concat-append f l m) ∙ sym (append_assoc (f x) (concat_map f l) (concat_map f m))

-- ---- readers: at any offset these bytes give this value, which may name the offset, and leave this rest

record Back {A : Type 0} (reader : Reader A) (bytes : List ℕ) (value : ℕ → A) (rest : List ℕ) : Type 0 where
  pub next : ℕ → ℕ
  pub same : (offset : ℕ) → reader offset bytes ≡ found (value offset) (next offset) rest

back-number : (n : ℕ) (rest : List ℕ) → n < 2 ^ 64 → Back number (shortest n ++ rest) (λ _. n) rest
back-number n rest h = record { next = λ offset. offset + length (shortest n); same = λ offset. number-shortest n offset rest h }

back-times : {l : List ℕ} → Words l → (rest : List ℕ) → Back (times (length l) number) (concat_map shortest l ++ rest) (λ _. l) rest
unfolding times concat_map
back-times done rest = record { next = λ offset. offset; same = λ offset. refl }
back-times (more {x = n} {l = l} h w) rest =
    let N = back-number n (concat_map shortest l ++ rest) h in
    let L = back-times w rest in
    record {
      next = λ offset. L.next (N.next offset);
      same = λ offset.
          ap (times (suc (length l)) number offset) (append_assoc (shortest n) (concat_map shortest l) rest)
          ∙ then_found _ (N.same offset) ∙ then_found _ (L.same (N.next offset));
    }

back-entry : (size : ℕ) {l : List ℕ} → Words l → length l ≡ size → (rest : List ℕ) → Back (entry size) (concat_map shortest l ++ rest) (λ offset. record { place = offset; numbers = l }) rest
unfolding entry
back-entry size {l} w h rest =
    let L = back-times w rest in
    record {
      next = L.next;
      same = λ offset. ap (λ n. and_then (times n number offset (concat_map shortest l ++ rest)) (λ numbers. give (record { place = offset; numbers = numbers }))) (sym h) ∙ then_found _ (L.same offset);
    }

-- ---- a list of entries: their places depend on the offset, their numbers do not

record BackList (reader : Reader (List Entry)) (bytes : List ℕ) (chunked : List (List ℕ)) (rest : List ℕ) : Type 0 where
  pub found_there : ℕ → List Entry
  pub next : ℕ → ℕ
  pub same : (offset : ℕ) → reader offset bytes ≡ found (found_there offset) (next offset) rest
  pub numbers : (offset : ℕ) → numbers_in (found_there offset) ≡ chunked

back-entries : (n size : ℕ) {l : List ℕ} → Words l → length l ≡ n * size → (rest : List ℕ) → BackList (times_entry n size) (concat_map shortest l ++ rest) (chunks n size l) rest
unfolding times_entry chunks concat_map
back-entries zero size {l} w h rest =
    let e : l ≡ [] = nil_from_length l (omega arith) in
    record {
      found_there = λ offset. [];
      next = λ offset. offset;
      same = λ offset. ap (λ m. found [] offset (concat_map shortest m ++ rest)) e;
      numbers = λ offset. refl;
    }
back-entries (suc n) size {l} w h rest =
    let left : length (drop size l) ≡ n * size = omega (arith, length-drop size l) in
    let here : length (take size l) ≡ size = length-take-le size l (omega arith) in
    let bytes : concat_map shortest l ++ rest ≡ concat_map shortest (take size l) ++ (concat_map shortest (drop size l) ++ rest) =
    ap (λ m. concat_map shortest m ++ rest) (sym (take-append-drop size l)) ∙ ap (λ m. m ++ rest) (concat-append shortest (take size l) (drop size l))
    ∙ append_assoc (concat_map shortest (take size l)) (concat_map shortest (drop size l)) rest in
    let E = back-entry size (words_take size w) here (concat_map shortest (drop size l) ++ rest) in
    let L = back-entries n size (words-drop size w) left rest in
    record {
      found_there = λ offset. record { place = offset; numbers = take size l } ∷ L.found_there (E.next offset);
      next = λ offset. L.next (E.next offset);
      same = λ offset. ap (times_entry (suc n) size offset) bytes ∙ then_found _ (E.same offset) ∙ then_found _ (L.same (E.next offset));
      numbers = λ offset. ap (λ r. take size l ∷ r) (L.numbers (E.next offset));
    }

-- a list behind its count, of whole entries
back-list : (size : ℕ) {l : List ℕ} → Words l → length l / size < 2 ^ 64 → length l ≡ length l / size * size → (rest : List ℕ) → BackList (entries size) (list_bytes size l ++ rest) (chunks (length l / size) size l) rest
unfolding entries list_bytes
back-list size {l} w few h rest =
    let N = back-number (length l / size) (concat_map shortest l ++ rest) few in
    let L = back-entries (length l / size) size w h rest in
    record {
      found_there = λ offset. L.found_there (N.next offset);
      next = λ offset. L.next (N.next offset);
      same = λ offset. ap (entries size offset) (append_assoc (shortest (length l / size)) (concat_map shortest l) rest) ∙ then_found _ (N.same offset) ∙ L.same (N.next offset);
      numbers = λ offset. L.numbers (N.next offset);
    }

-- ---- the numbers of the entries are the list again

join-chunks : (n size : ℕ) (l : List ℕ) → length l ≡ n * size → concat_map (λ c. c) (chunks n size l) ≡ l
unfolding chunks concat_map
join-chunks zero size l h = sym (nil_from_length l (omega arith))
join-chunks (suc n) size l h = ap (λ m. take size l ++ m) (join-chunks n size (drop size l) (omega (arith, length-drop size l))) ∙ take-append-drop size l

join-numbers : (es : List Entry) → concat_map (λ e. e.numbers) es ≡ concat_map (λ c. c) (numbers_in es)
unfolding concat_map
join-numbers [] = refl
join-numbers (e ∷ es) = ap (λ m. e.numbers ++ m) (join-numbers es)

list-again : (n size : ℕ) (l : List ℕ) (es : List Entry) → numbers_in es ≡ chunks n size l → length l ≡ n * size → concat_map (λ e. e.numbers) es ≡ l
list-again n size l es e h = join-numbers es ∙ ap (concat_map (λ c. c)) e ∙ join-chunks n size l h

numbers-again : (cs : List (List ℕ)) → numbers_in (map (λ numbers. record { place = 0; numbers = numbers }) cs) ≡ cs
numbers-again [] = refl
numbers-again (c ∷ cs) = ap (λ m. c ∷ m) (numbers-again cs)

-- ---- the sheet

-- what the writer asks of a result, and what a list in memory keeps to anyway: numbers and counts of 64 bits
pub record Writable (r : Result) : Type 0 where
  pub regions : r.regions < 2 ^ 64
  pub labels : Words r.labels
  pub tallies : Words r.tallies
  pub pairs : Words r.pairs
  pub rows : Words r.rows
  pub labels-few : length r.labels < 2 ^ 64
  pub tallies-few : length r.tallies < 2 ^ 64
  pub pairs-few : length r.pairs < 2 ^ 64
  pub rows_few : length r.rows < 2 ^ 64
  pub tallies-whole : length r.tallies % tallies_per_span ≡ 0
  pub pairs-whole : length r.pairs % numbers_per_pair ≡ 0
  pub rows_whole : length r.rows % numbers_per_row ≡ 0
  pub rules : rules_fault (placed r) ≡ None

six : (a b c d e f : List ℕ) → a ++ b ++ c ++ d ++ e ++ f ≡ a ++ (b ++ (c ++ (d ++ (e ++ (f ++ [])))))
six a b c d e f =
    append_assoc (a ++ b ++ c ++ d) e f ∙ append_assoc (a ++ b ++ c) d (e ++ f) ∙ append_assoc (a ++ b) c (d ++ (e ++ f)) ∙ append_assoc a b (c ++ (d ++ (e ++ f)))
    ∙ ap (λ m. a ++ (b ++ (c ++ (d ++ (e ++ m))))) (sym (append-nil f))

back-kind : (rest : List ℕ) → Back kind (shortest 2 ++ rest) (λ _. 2) rest
unfolding kind
back-kind rest =
    let N = back-number 2 rest (omega arith) in
    record { next = N.next; same = λ offset. then_found _ (N.same offset) }

back_one : (n : ℕ) (rest : List ℕ) → n < 2 ^ 64 → Back (entry 1) (shortest n ++ rest) (λ offset. record { place = offset; numbers = n ∷ [] }) rest
unfolding concat_map
back_one n rest h =
    let E = back-entry 1 (more h done) refl rest in
    record { next = E.next; same = λ offset. ap (λ m. entry 1 offset (m ++ rest)) (sym (append-nil (shortest n))) ∙ E.same offset }

-- `result`, part by part
abbrev after_rows : Entry → List Entry → List Entry → List Entry → List Entry → Reader Placed
after_rows count labels tallies pairs rows offset bytes =
    and_then (end offset bytes) (λ _. give (record { regions_place = count.place; regions = get_or count.numbers 0 0; labels = labels; tallies = tallies; pairs = pairs; rows = rows }))

abbrev after_pairs : Entry → List Entry → List Entry → List Entry → Reader Placed
after_pairs count labels tallies pairs offset bytes = and_then (entries numbers_per_row offset bytes) (after_rows count labels tallies pairs)

abbrev after_tallies : Entry → List Entry → List Entry → Reader Placed
after_tallies count labels tallies offset bytes = and_then (entries numbers_per_pair offset bytes) (after_pairs count labels tallies)

abbrev after_labels : Entry → List Entry → Reader Placed
after_labels count labels offset bytes = and_then (entries tallies_per_span offset bytes) (after_tallies count labels)

abbrev after_count : Entry → Reader Placed
after_count count offset bytes = and_then (entries 1 offset bytes) (after_labels count)

abbrev after_kind : ℕ → Reader Placed
after_kind kind offset bytes = and_then (entry 1 offset bytes) after_count

record Placement (r : Result) : Type 0 where
  pub there : Placed
  pub behind : ℕ
  pub same : result 0 (result_bytes r) ≡ found there behind []
  pub regions : there.regions ≡ r.regions
  pub labels : numbers_in there.labels ≡ chunks (length r.labels / 1) 1 r.labels
  pub tallies : numbers_in there.tallies ≡ chunks (length r.tallies / tallies_per_span) tallies_per_span r.tallies
  pub pairs : numbers_in there.pairs ≡ chunks (length r.pairs / numbers_per_pair) numbers_per_pair r.pairs
  pub rows : numbers_in there.rows ≡ chunks (length r.rows / numbers_per_row) numbers_per_row r.rows

placement : (r : Result) → Writable r → Placement r
unfolding result result_bytes
placement r W =
    let L5 = back-list numbers_per_row W.rows (omega (arith, W.rows_few)) (omega (arith, W.rows_whole)) [] in
    let L3 = back-list numbers_per_pair W.pairs (omega (arith, W.pairs-few)) (omega (arith, W.pairs-whole)) (list_bytes numbers_per_row r.rows ++ []) in
    let L2 = back-list tallies_per_span W.tallies (omega (arith, W.tallies-few)) (omega (arith, W.tallies-whole)) (list_bytes numbers_per_pair r.pairs ++ (list_bytes numbers_per_row r.rows ++ [])) in
    let L1 = back-list 1 W.labels (omega (arith, W.labels-few)) (omega arith) (list_bytes tallies_per_span r.tallies ++ (list_bytes numbers_per_pair r.pairs ++ (list_bytes numbers_per_row r.rows ++ []))) in
    let R = back_one r.regions (list_bytes 1 r.labels ++ (list_bytes tallies_per_span r.tallies ++ (list_bytes numbers_per_pair r.pairs ++ (list_bytes numbers_per_row r.rows ++ [])))) W.regions in
    let K = back-kind (shortest r.regions ++ (list_bytes 1 r.labels ++ (list_bytes tallies_per_span r.tallies ++ (list_bytes numbers_per_pair r.pairs ++ (list_bytes numbers_per_row r.rows ++ []))))) in
    let o1 = K.next 0 in
    let o2 = R.next o1 in
    let o3 = L1.next o2 in
    let o4 = L2.next o3 in
    let o5 = L3.next o4 in
    let count : Entry = record { place = o1; numbers = r.regions ∷ [] } in
    record {
      there = record { regions_place = o1; regions = r.regions; labels = L1.found_there o2; tallies = L2.found_there o3; pairs = L3.found_there o4; rows = L5.found_there o5 };
      behind = L5.next o5;
      same =
          ap (result 0) (six (shortest 2) (shortest r.regions) (list_bytes 1 r.labels) (list_bytes tallies_per_span r.tallies) (list_bytes numbers_per_pair r.pairs) (list_bytes numbers_per_row r.rows))
          ∙ then_found after_kind (K.same 0) ∙ then_found after_count (R.same o1) ∙ then_found (after_labels count) (L1.same o2) ∙ then_found (after_tallies count (L1.found_there o2)) (L2.same o3)
          ∙ then_found (after_pairs count (L1.found_there o2) (L2.found_there o3)) (L3.same o4) ∙ then_found (after_rows count (L1.found_there o2) (L2.found_there o3) (L3.found_there o4)) (L5.same o5);
      regions = refl;
      labels = L1.numbers o2;
      tallies = L2.numbers o3;
      pairs = L3.numbers o4;
      rows = L5.numbers o5;
    }

-- "A result that was written reads as itself."
pub written-reads : (r : Result) → Writable r → read_result (result_bytes r) ≡ well_formed r
unfolding read_result reading placed entries_in
written-reads r W = ap reading P.same ∙ ap (λ f. judged_by f (result_of P.there)) kept ∙ ap well_formed again
  where
    P : Placement r
    P = placement r W

    kept : rules_fault P.there ≡ None
    kept =
        same_rules (placed r) P.there (sym P.regions) (numbers-again (chunks (length r.labels / 1) 1 r.labels) ∙ sym P.labels)
        (numbers-again (chunks (length r.pairs / numbers_per_pair) numbers_per_pair r.pairs) ∙ sym P.pairs)
        (numbers-again (chunks (length r.rows / numbers_per_row) numbers_per_row r.rows) ∙ sym P.rows) W.rules

    labels : concat_map (λ e. e.numbers) P.there.labels ≡ r.labels
    labels = list-again (length r.labels / 1) 1 r.labels P.there.labels P.labels (omega arith)

    tallies : concat_map (λ e. e.numbers) P.there.tallies ≡ r.tallies
    tallies = list-again (length r.tallies / tallies_per_span) tallies_per_span r.tallies P.there.tallies P.tallies (omega (arith, W.tallies-whole))

    pairs : concat_map (λ e. e.numbers) P.there.pairs ≡ r.pairs
    pairs = list-again (length r.pairs / numbers_per_pair) numbers_per_pair r.pairs P.there.pairs P.pairs (omega (arith, W.pairs-whole))

    rows : concat_map (λ e. e.numbers) P.there.rows ≡ r.rows
    rows = list-again (length r.rows / numbers_per_row) numbers_per_row r.rows P.there.rows P.rows (omega (arith, W.rows_whole))

    again : result_of P.there ≡ r
    again = λ i. record { regions = P.regions i; labels = labels i; tallies = tallies i; pairs = pairs i; rows = rows i }
