-- A list behind its count: what is answered of it, from what was found of the count and of the entries. Assumes nothing.
use Prim.Native.Nat.{ℕ, ◌*◌, ◌≤◌}
use mathlib.Core.Path.{◌≡◌, refl, sym, ap, ◌∙◌}
use mathlib.Core.Bool.{not}
use Rattle.std.specs.Prelude.{Option, None, Some, Result, Ok, Err, eqb}
use Rattle.std.specs.Result.{result_err}
use mathlib.Core.List.{List, []}
use lib.ListN.{length, drop}
use Rattle.definitions.specs.Limits.{tallies_per_span}
use Rattle.definitions.specs.Scan.{only_if}
use Rattle.definitions.specs.SheetNumber.{found, failed, number}
use Rattle.laws.specs.SheetReading.SheetLaws.{keeps-number, ends-inside}
use Rattle.sheet.specs.Numbers.{items_at, Told}
use Rattle.refusals.specs.declared.Refusal.{Refusal}
use Rattle.refusals.specs.Refusals.{number_of}
use Rattle.results.specs.Result.{Entry, times_entry, entries, turns, labels_fault, ascent_fault}
use Rattle.result_writer.specs.Contract.{key_in}
use Rattle.result_reader.specs.Walks.{entries_at, entries_of, Walks, turns_from, fault_behind, ascent_from}
use Rattle.result_reader.specs.Parts.{turns_fault, no_fault, key_fault, ListHeld}
use Rattle.result_reader.proofs.Flat.{flat-times, unflat_found, unflat_failed, part_held}
use Rattle.result_reader.proofs.Numbers.{times-inside}

-- ---- what is remembered behind the last entry, as a breach

module _ {state : Result ℕ ℕ} (regions place : ℕ) where
  pub turns_behind : (n : ℕ) → state ≡ Ok n → labels_fault regions place (turns_from regions state []) ≡ only_if (not (eqb n regions)) place
  unfolding turns_from turns
  turns_behind n e = ap (λ s. labels_fault regions place (turns_from regions s [])) e

  pub turns-broken : {first : ℕ} → state ≡ Err first → Some first ≡ labels_fault regions place (turns_from regions state [])
  unfolding turns_from
  turns-broken e = sym (ap (λ s. labels_fault regions place (turns_from regions s [])) e)

pub ascent_behind : (key : List ℕ → List ℕ) (state : Result (Option (List ℕ)) ℕ) → result_err state ≡ ascent_from key state []
unfolding ascent_from ascent_fault fault_behind
ascent_behind key (Ok None) = refl
ascent_behind key (Ok (Some k)) = refl
ascent_behind key (Err place) = refl

-- ---- the count

count-read : (size at : ℕ) (bytes : List ℕ) {count next : ℕ} {rest : List ℕ} → number at bytes ≡ found count next rest → entries size at bytes ≡ times_entry count size next rest
unfolding entries
count-read size at bytes h = rw h

pub count-fails : (size at : ℕ) (bytes : List ℕ) {refusal place : ℕ} → number at bytes ≡ failed refusal place → entries size at bytes ≡ failed refusal place
unfolding entries
count-fails size at bytes h = rw h

module _ (size at : ℕ) (bytes : List ℕ) {count first : ℕ} (h : number at (drop at bytes) ≡ found count first (drop first bytes)) where
  list-found : {fault : List Entry → Option ℕ} {next : ℕ} {breach : Option ℕ} → at ≤ length bytes → next ≤ length bytes
      → entries_at size bytes first count ≡ found (entries_of (entries_at size bytes first count)) next (drop next bytes)
      → breach ≡ fault (entries_of (entries_at size bytes first count)) → ListHeld fault size bytes at (record { first = first; count = count }) next breach
  unfolding entries_at
  list-found k m e b =
      record {
        held = part_held (ends-inside keeps-number bytes at k h) e;
        behind = m;
        same = count-read size at (drop at bytes) h ∙ e;
        broken = b;
      }

  list-fails : {refusal place : ℕ} → entries_at size bytes first count ≡ failed refusal place → entries size at (drop at bytes) ≡ failed refusal place
  unfolding entries_at
  list-fails e = count-read size at (drop at bytes) h ∙ e

-- ---- labels

module _ (at : ℕ) (bytes : List ℕ) {count first : ℕ} (h : number at (drop at bytes) ≡ found count first (drop first bytes)) where
  module _ (regions : ℕ) where
    pub labels-found : (place : ℕ) {next : ℕ} {state : Result ℕ ℕ} {breach : Option ℕ} → at ≤ length bytes
        → Walks (turns_from regions) 1 bytes (Ok 0) first count (Ok (record { value = state; next = next })) → breach ≡ labels_fault regions place (turns_from regions state [])
        → ListHeld (turns_fault regions place) 1 bytes at (record { first = first; count = count }) next breach
    unfolding turns_from
    labels-found place k w b = list-found 1 at bytes h k w.behind w.same (b ∙ sym (ap (labels_fault regions place) w.told))

    pub labels-stopped : (refusal : Refusal) → Walks (turns_from regions) 1 bytes (Ok 0) first count (Err refusal) → entries 1 at (drop at bytes) ≡ failed (number_of refusal.cause) refusal.place
    labels-stopped refusal w = list-fails 1 at bytes h w

  -- ---- pairs and rows

  module _ (size last : ℕ) where
    pub keys_found : {next : ℕ} {state : Result (Option (List ℕ)) ℕ} {breach : Option ℕ} → at ≤ length bytes
        → Walks (ascent_from (key_in last)) size bytes (Ok None) first count (Ok (record { value = state; next = next })) → breach ≡ ascent_from (key_in last) state []
        → ListHeld (key_fault last) size bytes at (record { first = first; count = count }) next breach
    unfolding ascent_from
    keys_found k w b = list-found size at bytes h k w.behind w.same (b ∙ sym w.told)

    pub keys-stopped : (refusal : Refusal) → Walks (ascent_from (key_in last)) size bytes (Ok None) first count (Err refusal)
        → entries size at (drop at bytes) ≡ failed (number_of refusal.cause) refusal.place
    keys-stopped refusal w = list-fails size at bytes h w

  -- ---- tallies

  pub tallies-found : {next : ℕ} → at ≤ length bytes → Told bytes (items_at number bytes first (count * tallies_per_span)) (Ok next)
      → ListHeld no_fault tallies_per_span bytes at (record { first = first; count = count }) next None
  unfolding items_at entries_at
  tallies-found k u =
      let inside = ends-inside keeps-number bytes at k h in
      list-found tallies_per_span at bytes h k (times-inside (count * tallies_per_span) bytes first inside u)
      (unflat_found (times_entry count tallies_per_span first (drop first bytes)) (sym (flat-times count tallies_per_span first (drop first bytes)) ∙ u)) refl

  pub tallies-stopped : (refusal : Refusal) → Told bytes (items_at number bytes first (count * tallies_per_span)) (Err refusal)
      → entries tallies_per_span at (drop at bytes) ≡ failed (number_of refusal.cause) refusal.place
  unfolding items_at entries_at
  tallies-stopped refusal u =
      list-fails tallies_per_span at bytes h (unflat_failed (times_entry count tallies_per_span first (drop first bytes)) (sym (flat-times count tallies_per_span first (drop first bytes)) ∙ u))
