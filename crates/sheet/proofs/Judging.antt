-- What holds at each turn of the loop that judges a run of numbers (`Judging`): an answer that tells how reading the rest ends tells how reading all of
-- them ends. Assumes nothing.
use Prim.Native.Nat.{ℕ, suc, ◌+◌, ◌-◌, ◌≤◌, ◌<◌}
use mathlib.Core.Path.{◌≡◌, refl, sym, ap, ◌∙◌}
use mathlib.Core.List.{List, ◌∷◌}
use native.Mathlib.Omega.{arith}
use lib.ListN.{length, drop}
use Rattle.definitions.specs.SheetNumber.{Read, found, failed, number}
use Rattle.definitions.specs.Sheet.{Reader, and_then, give, times, cell}
use Rattle.laws.specs.SheetReading.SheetLaws.{Keeps, ends-inside, times-found, times-failed, then_found, then-failed}
use Rattle.sheet.specs.Numbers.{up_to, items_at, values_in, is_found, Told, Held}
use Rattle.sheet.proofs.Items.{up_to-all, up_to-cell}
use Rattle.std.specs.Prelude.{Result, Ok, Err}
use Rattle.refusals.specs.declared.Refusal.{Refusal}
use Rattle.refusals.specs.Refusals.{number_of}

-- what is found, by its own values
pub told : {read : Read (List ℕ)} {values rest : List ℕ} {next : ℕ} → read ≡ found values next rest → read ≡ found (values_in read) next rest
told h = rw h refl

pub record Judging (item : Reader ℕ) (bytes : List ℕ) (at count next i : ℕ) : Type 0 where
  pub few : i ≤ count
  pub inside : next ≤ length bytes
  pub same : (answer : Result ℕ Refusal) → Told bytes (items_at item bytes next (count - i)) answer → Told bytes (items_at item bytes at count) answer

module _ {item : Reader ℕ} {bytes : List ℕ} {at : ℕ} where
  module _ {count next i : ℕ} (J : Judging item bytes at count next i) where
    -- nothing is left
    pub judging_ends : count ≤ i → Told bytes (items_at item bytes at count) (Ok next)
    unfolding items_at times
    judging_ends h =
        let e : count - i ≡ 0 = omega arith in
        J.same (Ok next) (rw e refl)

    module _ (h : i < count) where
      one_more : suc (count - (i + 1)) ≡ count - i
      one_more = omega arith

      pub judging_stops : (refusal : Refusal) → item next (drop next bytes) ≡ failed (number_of refusal.cause) refusal.place → Told bytes (items_at item bytes at count) (Err refusal)
      unfolding items_at
      judging_stops refusal e = J.same (Err refusal) (ap (λ n. times n item next (drop next bytes)) (sym one_more) ∙ times-failed item (count - (i + 1)) next (drop next bytes) e)

      pub judging_goes_on : Keeps item → {value behind : ℕ} → item next (drop next bytes) ≡ found value behind (drop behind bytes) → Judging item bytes at count behind (i + 1)
      unfolding items_at
      judging_goes_on k {value} {behind} e = record {
        few = omega arith;
        inside = ends-inside k bytes next J.inside e;
        same = λ answer t. J.same answer (more answer t);
      }
        where
          begun : times (count - i) item next (drop next bytes) ≡ and_then (times (count - (i + 1)) item behind (drop behind bytes)) (λ values. give (value ∷ values))
          begun = ap (λ n. times n item next (drop next bytes)) (sym one_more) ∙ times-found item (count - (i + 1)) next (drop next bytes) e

          more : (answer : Result ℕ Refusal) → Told bytes (times (count - (i + 1)) item behind (drop behind bytes)) answer → Told bytes (times (count - i) item next (drop next bytes)) answer
          more (Ok last) t = told (begun ∙ then_found (λ values. give (value ∷ values)) t)
          more (Err refusal) t = begun ∙ then-failed (λ values. give (value ∷ values)) t

pub told-numbers : (bytes : List ℕ) (at count : ℕ) (answer : Result ℕ Refusal) → Told bytes (items_at (up_to 0xffff_ffff_ffff_ffff) bytes at count) answer → Told bytes (items_at number bytes at count) answer
told-numbers bytes at count answer h = rw up_to-all at h

pub told-cells : (bytes : List ℕ) (at count : ℕ) (answer : Result ℕ Refusal) → Told bytes (items_at (up_to 255) bytes at count) answer → Told bytes (items_at cell bytes at count) answer
told-cells bytes at count answer h = rw up_to-cell at h

-- what was judged to stand there may be stored
pub read-is_held : {item : Reader ℕ} {bytes : List ℕ} {at count next : ℕ} → at ≤ length bytes → Told bytes (items_at item bytes at count) (Ok next) → Held item bytes at count
read-is_held h t = record { inside = h; all = ap is_found t }
