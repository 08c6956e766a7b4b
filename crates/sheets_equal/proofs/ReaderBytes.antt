-- Readers whose values have one written form each: with what was read before them in front, the bytes that they take are what is written for their value
-- (`Reads`); and readers that leave nothing (`Ends`). What is assumed: the bytes are below 256.
use Rattle.std.specs.Prelude.{ℕ, zero, suc, ◌≡◌, refl, Bool, true, false, List, [], ◌∷◌, ◌++◌, eqb}
use Rattle.std.proofs.Common.{sym, ap, subst, ◌∙◌, append_assoc, eqb-true}
use Rattle.definitions.specs.Scan.{concat_map}
use Rattle.definitions.specs.SheetNumber.{Read, found, failed, number}
use Rattle.definitions.specs.Sheet.{Reader, give, check, and_then, times, judged, end}
use Rattle.laws.specs.ListLaws.Lists.{all_split}
use Rattle.laws.specs.SheetReading.SheetLaws.{not_found}
use Rattle.results.specs.Shortest.{shortest}
use Rattle.sheets_equal.specs.NumberBytes.{Bytes}
use Rattle.sheets_equal.proofs.NumberBytes.{number-bytes}

-- ---- readers: with `front` before them, the bytes that a reader takes are what is written for its value

pub record Reads {A : Type 0} (front : List ℕ) (reader : Reader A) (written : A → List ℕ) : Type 0 where
  pub whole : (offset : ℕ) (bytes : List ℕ) {value : A} {next : ℕ} {rest : List ℕ} → Bytes bytes → reader offset bytes ≡ found value next rest → front ++ bytes ≡ written value ++ rest

pub reads-number : Reads [] number shortest
reads-number = record { whole = λ offset bytes B h. number-bytes offset bytes B h }

module _ {A : Type 0} where
  pub reads-give : (front : List ℕ) (written : A → List ℕ) (value : A) → front ≡ written value → Reads front (give value) written
  reads-give front written value e = record { whole = λ offset bytes B h. go h }
    where
      go : {v : A} {offset next : ℕ} {bytes rest : List ℕ} → found value offset bytes ≡ found v next rest → front ++ bytes ≡ written v ++ rest
      go {v} {offset} {next} {bytes} {rest} h =
          let u : value ≡ v = cc in
          let w : bytes ≡ rest = cc in
          ap (λ l. front ++ l) w ∙ ap (λ l. l ++ rest) (e ∙ ap written u)

module _ {A B : Type 0} where
  pub reads_then : (front : List ℕ) (reader : Reader A) (next : A → Reader B) (first : A → List ℕ) (written : B → List ℕ) → Reads [] reader first
      → ((a : A) → Reads (front ++ first a) (next a) written) → Reads front (λ offset bytes. and_then (reader offset bytes) next) written
  reads_then front reader next first written k l = record { whole = λ offset bytes B h. go offset bytes B (reader offset bytes) refl h }
    where
      go : (offset : ℕ) (bytes : List ℕ) → Bytes bytes → (r : Read A) → reader offset bytes ≡ r → {value : B} {last : ℕ} {rest : List ℕ} → and_then r next ≡ found value last rest
          → front ++ bytes ≡ written value ++ rest
      go offset bytes B (found a o m) e h =
          let s : bytes ≡ first a ++ m = k.whole offset bytes B e in
          ap (λ l. front ++ l) s ∙ sym (append_assoc front (first a) m) ∙ (l a).whole o m (all_split (first a) (subst Bytes s B)).1 h
      go offset bytes B (failed refusal place) e h = absurd (not_found h)

  pub reads-check-then : (front : List ℕ) (ok : Bool) (refusal place : ℕ) (a : A) (next : A → Reader B) (written : B → List ℕ) → (ok ≡ true → Reads front (next a) written)
      → Reads front (λ offset bytes. and_then (check ok refusal place a offset bytes) next) written
  reads-check-then front true refusal place a next written k = record { whole = λ offset bytes B h. (k refl).whole offset bytes B h }
  reads-check-then front false refusal place a next written k = record { whole = λ offset bytes B h. absurd (not_found h) }

-- a number that is judged is that number, and passed
pub judged_is : (ok : ℕ → Bool) (offset : ℕ) (bytes : List ℕ) {v next : ℕ} {rest : List ℕ} → judged ok offset bytes ≡ found v next rest → (number offset bytes ≡ found v next rest) × (ok v ≡ true)
unfolding judged
judged_is ok offset bytes {v} {next} {rest} h = go (number offset bytes) refl h
  where
    go : (r : Read ℕ) → number offset bytes ≡ r → and_then r (λ value. check (ok value) 14 offset value) ≡ found v next rest → (number offset bytes ≡ found v next rest) × (ok v ≡ true)
    go (found n o m) e q = pick (ok n) refl q
      where
        pick : (t : Bool) → ok n ≡ t → check t 14 offset n o m ≡ found v next rest → (number offset bytes ≡ found v next rest) × (ok v ≡ true)
        pick true f q =
            let u : n ≡ v = cc in
            (e ∙ q, ap ok (sym u) ∙ f)
        pick false f q = absurd (not_found q)
    go (failed refusal place) e q = absurd (not_found q)

-- a number that must be n
pub reads_exactly : (n : ℕ) → Reads [] (judged (λ value. eqb value n)) (λ _. shortest n)
reads_exactly n = record { whole = λ offset bytes B h. go offset bytes B (judged_is (λ value. eqb value n) offset bytes h) }
  where
    go : (offset : ℕ) (bytes : List ℕ) → Bytes bytes → {v next : ℕ} {rest : List ℕ} → (number offset bytes ≡ found v next rest) × (eqb v n ≡ true) → bytes ≡ shortest n ++ rest
    go offset bytes B {v} {next} {rest} h = number-bytes offset bytes B h.0 ∙ ap (λ m. shortest m ++ rest) (eqb-true v n h.1)

pub reads_times : (item : Reader ℕ) (written : ℕ → List ℕ) → Reads [] item written → (n : ℕ) → Reads [] (times n item) (concat_map written)
unfolding times concat_map
reads_times item written k zero = reads-give [] (concat_map written) [] refl
reads_times item written k (suc n) =
    reads_then [] item (λ value offset bytes. and_then (times n item offset bytes) (λ values. give (value ∷ values))) written (concat_map written) k
    (λ value. reads_then (written value) (times n item) (λ values. give (value ∷ values)) (concat_map written) (concat_map written) (reads_times item written k n)
    (λ values. reads-give (written value ++ concat_map written values) (concat_map written) (value ∷ values) refl))

pub reads_end : (front : List ℕ) {B : Type 0} (next : Unit {0} → Reader B) (written : B → List ℕ) → Reads front (next tt) written → Reads front (λ offset bytes. and_then (end offset bytes) next) written
reads_end front {B} next written k = record { whole = λ offset bytes H h. go offset bytes H h }
  where
    go : (offset : ℕ) (bytes : List ℕ) → Bytes bytes → {value : B} {last : ℕ} {rest : List ℕ} → and_then (end offset bytes) next ≡ found value last rest → front ++ bytes ≡ written value ++ rest
    go offset [] H h = k.whole offset [] H h
    go offset (b ∷ bytes) H h = absurd (not_found h)

-- ---- a reader that ends with `end` leaves nothing

pub record Ends {A : Type 0} (reader : Reader A) : Type 0 where
  pub empty : (offset : ℕ) (bytes : List ℕ) {value : A} {next : ℕ} {rest : List ℕ} → reader offset bytes ≡ found value next rest → rest ≡ []

module _ {A B : Type 0} where
  pub ends-then : (reader : Reader A) (next : A → Reader B) → ((a : A) → Ends (next a)) → Ends (λ offset bytes. and_then (reader offset bytes) next)
  ends-then reader next k = record { empty = λ offset bytes h. go (reader offset bytes) h }
    where
      go : (r : Read A) {value : B} {last : ℕ} {rest : List ℕ} → and_then r next ≡ found value last rest → rest ≡ []
      go (found a o m) h = (k a).empty o m h
      go (failed refusal place) h = absurd (not_found h)

module _ {B : Type 0} where
  pub ends-end : (value : B) → Ends (λ offset bytes. and_then (end offset bytes) (λ _. give value))
  ends-end value = record { empty = λ offset bytes h. go offset bytes h }
    where
      go : (offset : ℕ) (bytes : List ℕ) {v : B} {last : ℕ} {rest : List ℕ} → and_then (end offset bytes) (λ _. give value) ≡ found v last rest → rest ≡ []
      go offset [] h = cc
      go offset (b ∷ bytes) h = absurd (not_found h)
