-- Entries and their numbers: reading so many entries of a size is reading so many times the size numbers, and fails where that fails. Assumes nothing.
use Prim.Native.Nat.{ℕ, zero, suc, ◌+◌, ◌*◌, ◌≤◌}
use native.Mathlib.Omega.{arith}
use native.Mathlib.Nat.{zero-add}
use mathlib.Core.Path.{◌≡◌, refl, sym, ap, ◌∙◌}
use mathlib.Core.List.{List, [], ◌∷◌, ◌++◌}
use lib.ListN.{length, drop}
use Rattle.definitions.specs.Scan.{concat_map}
use Rattle.definitions.specs.SheetNumber.{Read, found, failed, number}
use Rattle.definitions.specs.Sheet.{Reader, give, and_then, times}
use Rattle.laws.specs.SheetReading.SheetLaws.{not_found}
use Rattle.sheet.specs.Numbers.{items_at, values_in, is_found}
use Rattle.results.specs.Result.{Entry, entry, times_entry}
use Rattle.result_reader.specs.Walks.{entries_at, entries_of}
use Rattle.result_reader.specs.Parts.{PartHeld}
use Rattle.sheet.specs.declared.Part.{Part}

-- ---- numbers and then numbers

module _ (item : Reader ℕ) where
  pub times-add : (m n offset : ℕ) (bytes : List ℕ) → times (m + n) item offset bytes ≡ and_then (times m item offset bytes) (λ l o r. and_then (times n item o r) (λ k. give (l ++ k)))
  unfolding times
  times-add zero n offset bytes = ap (λ k. times k item offset bytes) (zero-add n) ∙ alone (times n item offset bytes)
    where
      alone : (r : Read (List ℕ)) → r ≡ and_then r (λ k. give ([] ++ k))
      alone (found l o m) = refl
      alone (failed refusal place) = refl
  times-add (suc m) n offset bytes = ap (λ k. times k item offset bytes) one_more ∙ first (item offset bytes) (λ o r. times-add m n o r)
    where
      one_more : suc m + n ≡ suc (m + n)
      one_more = omega arith

      third : (v : ℕ) (l : List ℕ) (r : Read (List ℕ)) → and_then (and_then r (λ k. give (l ++ k))) (λ vs. give (v ∷ vs)) ≡ and_then r (λ k. give ((v ∷ l) ++ k))
      third v l (found k o r) = refl
      third v l (failed refusal place) = refl

      second : (v : ℕ) (r : Read (List ℕ)) → and_then (and_then r (λ l o b. and_then (times n item o b) (λ k. give (l ++ k)))) (λ vs. give (v ∷ vs))
          ≡ and_then (and_then r (λ l. give (v ∷ l))) (λ l o b. and_then (times n item o b) (λ k. give (l ++ k)))
      second v (found l o b) = third v l (times n item o b)
      second v (failed refusal place) = refl

      first : (r : Read ℕ) → ((o : ℕ) (b : List ℕ) → times (m + n) item o b ≡ and_then (times m item o b) (λ l o r. and_then (times n item o r) (λ k. give (l ++ k))))
          → and_then r (λ v o b. and_then (times (m + n) item o b) (λ vs. give (v ∷ vs)))
          ≡ and_then (and_then r (λ v o b. and_then (times m item o b) (λ l. give (v ∷ l)))) (λ l o b. and_then (times n item o b) (λ k. give (l ++ k)))
      first (found v o b) ih = ap (λ r. and_then r (λ vs. give (v ∷ vs))) (ih o b) ∙ second v (times m item o b)
      first (failed refusal place) ih = refl

-- ---- entries

abbrev pub flat_read : Read (List Entry) → Read (List ℕ)
flat_read (found es o r) = found (concat_map (λ e. e.numbers) es) o r
flat_read (failed refusal place) = failed refusal place

pub flat-times : (n size offset : ℕ) (bytes : List ℕ) → times (n * size) number offset bytes ≡ flat_read (times_entry n size offset bytes)
unfolding times times_entry entry concat_map
flat-times zero size offset bytes = ap (λ k. times k number offset bytes) none_left
  where
    none_left : zero * size ≡ 0
    none_left = omega arith
flat-times (suc n) size offset bytes =
    ap (λ k. times k number offset bytes) one_more ∙ times-add number size (n * size) offset bytes ∙ first (times size number offset bytes) (λ o r. flat-times n size o r)
  where
    one_more : suc n * size ≡ size + n * size
    one_more = omega arith

    second : (e : Entry) (r : Read (List Entry)) → and_then (flat_read r) (λ k. give (e.numbers ++ k)) ≡ flat_read (and_then r (λ es. give (e ∷ es)))
    second e (found es o r) = refl
    second e (failed refusal place) = refl

    first : (r : Read (List ℕ)) → ((o : ℕ) (b : List ℕ) → times (n * size) number o b ≡ flat_read (times_entry n size o b))
        → and_then r (λ l o b. and_then (times (n * size) number o b) (λ k. give (l ++ k)))
        ≡ flat_read (and_then (and_then r (λ numbers. give (record { place = offset; numbers = numbers }))) (λ e o b. and_then (times_entry n size o b) (λ l. give (e ∷ l))))
    first (found l o b) ih = ap (λ r. and_then r (λ k. give (l ++ k))) (ih o b) ∙ second (record { place = offset; numbers = l }) (times_entry n size o b)
    first (failed refusal place) ih = refl

values-flat : (r : Read (List Entry)) → values_in (flat_read r) ≡ concat_map (λ e. e.numbers) (entries_of r)
unfolding concat_map
values-flat (found es o r) = refl
values-flat (failed refusal place) = refl

pub unflat_found : (r : Read (List Entry)) {values : List ℕ} {next : ℕ} {rest : List ℕ} → flat_read r ≡ found values next rest → r ≡ found (entries_of r) next rest
unflat_found (found es o m) {next = next} {rest = rest} h =
    let x : o ≡ next = cc in
    let y : m ≡ rest = cc in
    λ i. found es (x i) (y i)
unflat_found (failed refusal place) h = absurd (not_found h)

pub unflat_failed : (r : Read (List Entry)) {refusal place : ℕ} → flat_read r ≡ failed refusal place → r ≡ failed refusal place
unflat_failed (found es o m) h = absurd (not_found (sym h))
unflat_failed (failed a b) {refusal} {place} h =
    let x : a ≡ refusal = cc in
    let y : b ≡ place = cc in
    λ i. failed (x i) (y i)

-- what was walked may be stored
pub part_held : {size : ℕ} {bytes : List ℕ} {part : Part} {es : List Entry} {next : ℕ} {rest : List ℕ} → part.first ≤ length bytes
    → entries_at size bytes part.first part.count ≡ found es next rest → PartHeld size bytes part
unfolding entries_at items_at
part_held {size} {bytes} {part} h e =
    let whole = flat-times part.count size part.first (drop part.first bytes) in
    record {
      held = record { inside = h; all = ap is_found (whole ∙ ap flat_read e) };
      flat = sym (ap values_in whole ∙ values-flat (times_entry part.count size part.first (drop part.first bytes)));
    }
