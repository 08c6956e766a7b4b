-- What holds at each turn of a loop that stores a run of numbers (`Filling`): storing the rest from here on makes the list that is wanted. Assumes nothing.
use Prim.Native.Nat.{ℕ, suc, ◌+◌, ◌-◌, ◌≤◌, ◌<◌}
use mathlib.Core.Path.{◌≡◌, refl, sym, ap, ◌∙◌}
use mathlib.Core.Bool.{true, false}
use mathlib.Core.List.{List, ◌∷◌, ◌++◌, append-nil}
use native.Mathlib.Omega.{arith}
use native.Mathlib.Numerals.{add-one}
use native.Mathlib.Nat.{zero-add}
use lib.ListN.{length, drop, set, length-set, drop_of_length-le}
use lib.Seq.{sets, sets-eq}
use Rattle.definitions.specs.SheetNumber.{Read, found, failed}
use Rattle.definitions.specs.Sheet.{Reader, and_then, give, times}
use Rattle.definitions.specs.Lists.{overwrite}
use Rattle.laws.specs.SheetReading.SheetLaws.{Keeps, ends-inside, times-found, times-failed, times-length}
use Rattle.sheet.specs.Numbers.{read_of, items_at, values_in, is_found, values_at, Held}
use Rattle.sheet.specs.declared.Found.{Found}
use Rattle.refusals.specs.declared.Refusal.{Refusal}
use Rattle.std.specs.Prelude.{Result, Ok, Err, IsOk}

pub held-length : {item : Reader ℕ} {bytes : List ℕ} {at count : ℕ} → Held item bytes at count → length (values_at item bytes at count) ≡ count
unfolding items_at
held-length {item} {bytes} {at} {count} H = go (times count item at (drop at bytes)) refl H.all
  where
    go : (r : Read (List ℕ)) → times count item at (drop at bytes) ≡ r → is_found r ≡ true → length (values_in r) ≡ count
    go (found values next rest) e h = times-length item count at (drop at bytes) e
    go (failed refusal place) e h = absurd (let z : ◌≡◌ {A = ℕ} 0 1 = cc in omega arith)

-- `goal` is the list that is wanted
pub record Filling (item : Reader ℕ) (bytes out₀ goal : List ℕ) (count : ℕ) (out : List ℕ) (next i : ℕ) : Type 0 where
  pub few : i ≤ count
  pub held : Held item bytes next (count - i)
  pub long : length out ≡ length out₀
  pub room : count ≤ length out₀
  pub same : sets out i (values_at item bytes next (count - i)) ≡ goal

module _ {item : Reader ℕ} {bytes out₀ : List ℕ} {at count : ℕ} where
  pub filling_starts : Held item bytes at count → count ≤ length out₀ → Filling item bytes out₀ (overwrite (values_at item bytes at count) out₀) count out₀ at 0
  filling_starts H h =
      let e : count - 0 ≡ count = omega arith in
      let l : length (values_at item bytes at count) ≡ count = held-length H in
      record {
        few = omega arith;
        held = rw e H;
        long = refl;
        room = h;
        same = rw e (sets-eq (values_at item bytes at count) out₀ 0 (omega arith) ∙ ap (λ n. values_at item bytes at count ++ drop n out₀) (zero-add (length (values_at item bytes at count))));
      }

-- what `unwrap` gives of an answer that is none but `Ok`
pub unwrapped : (bytes : List ℕ) {outcome : Read ℕ} {r : Result (Found ℕ) Refusal} {read : Found ℕ} → outcome ≡ read_of bytes r → r ≡ Ok read
    → outcome ≡ found read.value read.next (drop read.next bytes)
unwrapped bytes e q = e ∙ ap (read_of bytes) q

-- of a list that is filled whole
pub filling_whole : {item : Reader ℕ} {bytes out₀ : List ℕ} {at : ℕ} → Held item bytes at (length out₀) → Filling item bytes out₀ (values_at item bytes at (length out₀)) (length out₀) out₀ at 0
filling_whole {item} {bytes} {out₀} {at} H =
    let F = filling_starts H (omega arith) in
    let v = values_at item bytes at (length out₀) in
    record {
      few = F.few;
      held = F.held;
      long = F.long;
      room = F.room;
      same = F.same ∙ ap (λ l. v ++ l) (drop_of_length-le out₀ (omega (arith, held-length H))) ∙ append-nil v;
    }

module _ {item : Reader ℕ} {bytes out₀ goal : List ℕ} {count : ℕ} where
  module _ {out : List ℕ} {next i : ℕ} (F : Filling item bytes out₀ goal count out next i) where
    pub filling_ends : count ≤ i → out ≡ goal
    unfolding items_at times
    filling_ends h =
        let e : count - i ≡ 0 = omega arith in
        (rw e at F.same)

    pub filling_room : count ≤ length out
    filling_room = omega (arith, F.room, F.long)

    module _ (h : i < count) where
      one_more : suc (count - (i + 1)) ≡ count - i
      one_more = omega arith

      -- what was judged is not refused
      filling_never-stops : {refusal place : ℕ} → item next (drop next bytes) ≡ failed refusal place → ⊥
      unfolding items_at
      filling_never-stops e =
          let q : is_found (times (count - i) item next (drop next bytes)) ≡ false = ap (λ n. is_found (times n item next (drop next bytes))) (sym one_more) ∙ ap is_found (times-failed item (count - (i + 1)) next (drop next bytes) e) in
          let z : ◌≡◌ {A = ℕ} 0 1 = cc F.held.all in
          omega arith

      pub filling_unwraps : (r : Result (Found ℕ) Refusal) → item next (drop next bytes) ≡ read_of bytes r → IsOk r
      filling_unwraps (Ok read) e = refl
      filling_unwraps (Err refusal) e = absurd (filling_never-stops e)

      pub filling_held : Held item bytes next 1
      unfolding items_at times
      filling_held = go (item next (drop next bytes)) refl
        where
          go : (r : Read ℕ) → item next (drop next bytes) ≡ r → Held item bytes next 1
          go (found value behind rest) e = record { inside = F.held.inside; all = ap is_found (times-found item 0 next (drop next bytes) e) }
          go (failed refusal place) e = absurd (filling_never-stops e)

      pub filling_goes_on : Keeps item → {value behind : ℕ} → item next (drop next bytes) ≡ found value behind (drop behind bytes) → Filling item bytes out₀ goal count (set out i value) behind (i + 1)
      unfolding items_at
      filling_goes_on k {value} {behind} e = go (times (count - (i + 1)) item behind (drop behind bytes)) refl
        where
          begun : times (count - i) item next (drop next bytes) ≡ and_then (times (count - (i + 1)) item behind (drop behind bytes)) (λ values. give (value ∷ values))
          begun = ap (λ n. times n item next (drop next bytes)) (sym one_more) ∙ times-found item (count - (i + 1)) next (drop next bytes) e

          go : (r : Read (List ℕ)) → times (count - (i + 1)) item behind (drop behind bytes) ≡ r → Filling item bytes out₀ goal count (set out i value) behind (i + 1)
          go (found values last rest) q =
              let v : values_in (times (count - i) item next (drop next bytes)) ≡ value ∷ values = ap values_in (begun ∙ ap (λ r. and_then r (λ values. give (value ∷ values))) q) in
              record {
                few = omega arith;
                held = record { inside = ends-inside k bytes next F.held.inside e; all = ap is_found q };
                long = length-set out i value ∙ F.long;
                room = F.room;
                same = rw (q, add-one i) (ap (sets out i) (sym v) ∙ F.same);
              }
          go (failed refusal place) q =
              let v : is_found (times (count - i) item next (drop next bytes)) ≡ false = ap is_found (begun ∙ ap (λ r. and_then r (λ values. give (value ∷ values))) q) in
              absurd (let z : ◌≡◌ {A = ℕ} 0 1 = cc F.held.all in omega arith)
