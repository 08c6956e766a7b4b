-- What holds at each turn of a loop that walks entries (`Walking`): an answer that tells how the rest of the walk ends tells how all of it ends. Assumes nothing.
use Prim.Native.Nat.{ℕ, suc, ◌+◌, ◌-◌, ◌≤◌, ◌<◌}
use native.Mathlib.Omega.{arith}
use mathlib.Core.Path.{◌≡◌, refl, sym, ap, subst, ◌∙◌}
use mathlib.Core.List.{List, ◌∷◌}
use lib.ListN.{length, drop}
use Rattle.std.specs.Prelude.{Result, Ok, Err}
use Rattle.refusals.specs.declared.Refusal.{Refusal}
use Rattle.refusals.specs.Refusals.{number_of}
use Rattle.sheet.specs.declared.Found.{Found}
use Rattle.definitions.specs.SheetNumber.{found, failed, number}
use Rattle.definitions.specs.Sheet.{give, and_then, times}
use Rattle.laws.specs.SheetReading.SheetLaws.{keeps-number, keeps-times, ends-inside, then_found, then-failed}
use Rattle.results.specs.Result.{Entry, entry, times_entry}
use Rattle.result_reader.specs.Walks.{entries_at, entries_of, Walks}

module _ (n size offset : ℕ) (bytes : List ℕ) where
  entries-failed : {refusal place : ℕ} → times size number offset bytes ≡ failed refusal place → times_entry (suc n) size offset bytes ≡ failed refusal place
  unfolding times_entry entry
  entries-failed h = rw h

  entries-found : {numbers : List ℕ} {next : ℕ} {rest : List ℕ} → times size number offset bytes ≡ found numbers next rest
      → times_entry (suc n) size offset bytes ≡ and_then (times_entry n size next rest) (λ l. give (record { place = offset; numbers = numbers } ∷ l))
  unfolding times_entry entry
  entries-found h = rw h

module _ {S X : Type 0} (from : S → List Entry → X) (size : ℕ) (bytes : List ℕ) where
  pub record Walking (s₀ : S) (at count next i : ℕ) (s : S) : Type 0 where
    pub few : i ≤ count
    pub inside : next ≤ length bytes
    pub same : (answer : Result (Found S) Refusal) → Walks from size bytes s next (count - i) answer → Walks from size bytes s₀ at count answer

  module _ {s₀ s : S} {at count next i : ℕ} (W : Walking s₀ at count next i s) where
    pub walking_ends : count ≤ i → Walks from size bytes s₀ at count (Ok (record { value = s; next = next }))
    unfolding entries_at times_entry
    walking_ends h =
        let e : count - i ≡ 0 = omega arith in
        let last : Result (Found S) Refusal = Ok (record { value = s; next = next }) in
        W.same last (subst (λ n. Walks from size bytes s next n last) (sym e) (record { behind = W.inside; same = refl; told = refl }))

    module _ (h : i < count) where
      one_more : suc (count - (i + 1)) ≡ count - i
      one_more = omega arith

      pub walking_stops : (refusal : Refusal) → times size number next (drop next bytes) ≡ failed (number_of refusal.cause) refusal.place → Walks from size bytes s₀ at count (Err refusal)
      unfolding entries_at
      walking_stops refusal e = W.same (Err refusal) (ap (λ n. times_entry n size next (drop next bytes)) (sym one_more) ∙ entries-failed (count - (i + 1)) size next (drop next bytes) e)

      pub walking_goes_on : {numbers : List ℕ} {behind : ℕ} {t : S} → times size number next (drop next bytes) ≡ found numbers behind (drop behind bytes)
          → ((es : List Entry) → from t es ≡ from s (record { place = next; numbers = numbers } ∷ es)) → Walking s₀ at count behind (i + 1) t
      unfolding entries_at
      walking_goes_on {numbers} {behind} {t} e step = record {
        few = omega arith;
        inside = ends-inside (keeps-times number keeps-number size) bytes next W.inside e;
        same = λ answer k. W.same answer (more answer k);
      }
        where
          this : Entry
          this = record { place = next; numbers = numbers }

          begun : times_entry (count - i) size next (drop next bytes) ≡ and_then (times_entry (count - (i + 1)) size behind (drop behind bytes)) (λ l. give (this ∷ l))
          begun = ap (λ n. times_entry n size next (drop next bytes)) (sym one_more) ∙ entries-found (count - (i + 1)) size next (drop next bytes) e

          more : (answer : Result (Found S) Refusal) → Walks from size bytes t behind (count - (i + 1)) answer → Walks from size bytes s next (count - i) answer
          more (Ok read) k =
              let es = entries_of (times_entry (count - (i + 1)) size behind (drop behind bytes)) in
              let q : times_entry (count - i) size next (drop next bytes) ≡ found (this ∷ es) read.next (drop read.next bytes) = begun ∙ then_found (λ l. give (this ∷ l)) k.same in
              record {
                behind = k.behind;
                same = q ∙ sym (ap (λ r. found (entries_of r) read.next (drop read.next bytes)) q);
                told = ap (λ r. from s (entries_of r)) q ∙ sym (step es) ∙ k.told;
              }
          more (Err refusal) k = begun ∙ then-failed (λ l. give (this ∷ l)) k
