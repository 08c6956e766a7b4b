-- Entries of a flat list while each is compared with the one before it (`Ascending`): what the rule says of those from the last one compared on, it says of
-- all. And the entries that are compared are those of the rule. Assumes nothing.
use Prim.Native.Nat.{ℕ, zero, suc, ◌+◌, ◌-◌, ◌*◌, ◌/◌, ◌<◌, ◌≤◌}
use native.Mathlib.Omega.{arith}
use native.Mathlib.Nat.{mul-suc}
use mathlib.Core.Path.{◌≡◌, refl, sym, ap, ◌∙◌}
use mathlib.Core.Bool.{Bool, true, false}
use Rattle.std.specs.Prelude.{None, Some}
use mathlib.Core.List.{List, [], map, append-nil}
use lib.ListN.{length, take, drop, get_or}
use lib.Seq.{drop-drop}
use Rattle.std.specs.Simd.{first_chunks}
use Rattle.definitions.specs.Sort.{list_lt}
use Rattle.results.specs.Result.{Entry, ascent_fault, pair_key}
use Rattle.results.specs.ResultAnswers.{chunks, entries_in}
use Rattle.result_writer.specs.Contract.{key_in}

-- ---- the entries

-- entry i, among those that the list is read as
chunk_at : (size count i : ℕ) (l : List ℕ) → i < count → get_or (first_chunks size count l) i [] ≡ take size (drop (size * i) l)
chunk_at size zero i l h = absurd (omega arith)
chunk_at size (suc count) zero l h =
    let none : 0 ≡ size * 0 = omega arith in
    ap (λ n. take size (drop n l)) none
chunk_at size (suc count) (suc i) l h =
    let next : size * i + size ≡ size * suc i = sym (mul-suc size i) in
    let behind : size + size * i ≡ size * suc i = omega (arith, next) in
    chunk_at size count i (drop size l) (omega arith) ∙ ap (take size) (drop-drop (size * i) size l ∙ ap (λ n. drop n l) behind)

pub entry-read : (size i : ℕ) (l : List ℕ) {entries : List (List ℕ)} → entries ≡ first_chunks size (length l / size) l → i < length l / size
    → get_or entries i [] ≡ take size (drop (size * i) l)
entry-read size i l e h = ap (λ c. get_or c i []) e ∙ chunk_at size (length l / size) i l h

pub entry_back : (size i : ℕ) → 1 ≤ i → size * (i - 1) + size ≡ size * i
entry_back size i h =
    let e : suc (i - 1) ≡ i = omega arith in
    sym (mul-suc size (i - 1)) ∙ ap (λ n. size * n) e

-- of pairs no number is compared behind the others
pub as_pairs : (es : List Entry) → ascent_fault pair_key es ≡ ascent_fault (key_in 0) es
as_pairs es = sym (λ i. ascent_fault (λ l. append-nil l i) es)

-- ---- the walk

abbrev unplaced : List (List ℕ) → List Entry
unplaced cs = map (λ numbers. record { place = 0; numbers = numbers }) cs

module _ (size : ℕ) (key : List ℕ → List ℕ) where
  -- the next entry is above this one, or it is not
  step-above : (k : ℕ) (m : List ℕ) → list_lt (key (take size m)) (key (take size (drop size m))) ≡ true
      → ascent_fault key (unplaced (chunks (suc (suc k)) size m)) ≡ ascent_fault key (unplaced (chunks (suc k) size (drop size m)))
  unfolding chunks ascent_fault
  step-above k m h = rw h refl

  step-not : (k : ℕ) (m : List ℕ) → list_lt (key (take size m)) (key (take size (drop size m))) ≡ false → ascent_fault key (unplaced (chunks (suc (suc k)) size m)) ≡ Some 0
  unfolding chunks ascent_fault
  step-not k m h = rw h refl

  alone : (m : List ℕ) → ascent_fault key (unplaced (chunks 1 size m)) ≡ None
  unfolding chunks ascent_fault
  alone m = refl

  starts : (n : ℕ) (m : List ℕ) → ascent_fault key (unplaced (chunks (suc (n - 1)) size m)) ≡ ascent_fault key (unplaced (chunks n size m))
  unfolding chunks ascent_fault
  starts zero m = refl
  starts (suc n) m =
      let e : suc n - 1 ≡ n = omega arith in
      ap (λ k. ascent_fault key (unplaced (chunks (suc k) size m))) e

  -- entry i is compared next
  pub record Ascending (l : List ℕ) (i : ℕ) : Type 0 where
    pub later : 1 ≤ i
    pub same : ascent_fault key (unplaced (chunks (suc (length l / size - i)) size (drop (size * (i - 1)) l))) ≡ ascent_fault key (entries_in size l)

  pub ascending_starts : (l : List ℕ) → size * (1 - 1) ≡ 0 → Ascending l 1
  unfolding entries_in
  ascending_starts l z =
      record {
        later = omega arith;
        same = ap (λ k. ascent_fault key (unplaced (chunks (suc (length l / size - 1)) size (drop k l)))) z ∙ starts (length l / size) l;
      }

  module _ {l : List ℕ} {i : ℕ} (A : Ascending l i) (inside : i < length l / size) (back : size * (i - 1) + size ≡ size * i) where
    behind : drop size (drop (size * (i - 1)) l) ≡ drop (size * i) l
    behind = drop-drop size (size * (i - 1)) l ∙ ap (λ k. drop k l) back

    more : length l / size - i ≡ suc (length l / size - (i + 1))
    more = omega arith

    test : {t : Bool} → list_lt (key (take size (drop (size * (i - 1)) l))) (key (take size (drop (size * i) l))) ≡ t
        → list_lt (key (take size (drop (size * (i - 1)) l))) (key (take size (drop size (drop (size * (i - 1)) l)))) ≡ t
    test h = ap (λ m. list_lt (key (take size (drop (size * (i - 1)) l))) (key (take size m))) behind ∙ h

    pub ascending_goes_on : list_lt (key (take size (drop (size * (i - 1)) l))) (key (take size (drop (size * i) l))) ≡ true → Ascending l (i + 1)
    ascending_goes_on h =
        let k : ℕ = length l / size - (i + 1) in
        let one : i + 1 - 1 ≡ i = omega arith in
        let e : size * (i + 1 - 1) ≡ size * i = ap (λ j. size * j) one in
        record {
          later = omega arith;
          same =
              ap (λ j. ascent_fault key (unplaced (chunks (suc k) size (drop j l)))) e
              ∙ ap (λ m. ascent_fault key (unplaced (chunks (suc k) size m))) (sym behind)
              ∙ sym (step-above k (drop (size * (i - 1)) l) (test h))
              ∙ ap (λ j. ascent_fault key (unplaced (chunks (suc j) size (drop (size * (i - 1)) l)))) (sym more)
              ∙ A.same;
        }

    pub ascending_stops : list_lt (key (take size (drop (size * (i - 1)) l))) (key (take size (drop (size * i) l))) ≡ false → ascent_fault key (entries_in size l) ≡ Some 0
    ascending_stops h =
        sym A.same ∙ ap (λ j. ascent_fault key (unplaced (chunks (suc j) size (drop (size * (i - 1)) l)))) more
        ∙ step-not (length l / size - (i + 1)) (drop (size * (i - 1)) l) (test h)

  pub ascending_ends : {l : List ℕ} {i : ℕ} → Ascending l i → length l / size ≤ i → ascent_fault key (entries_in size l) ≡ None
  ascending_ends {l} {i} A h =
      let z : length l / size - i ≡ 0 = omega arith in
      sym A.same ∙ ap (λ j. ascent_fault key (unplaced (chunks (suc j) size (drop (size * (i - 1)) l)))) z ∙ alone (drop (size * (i - 1)) l)

  -- entry i is above the one before it
  abbrev pub is_above : List ℕ → ℕ → Bool
  is_above l i = list_lt (key (take size (drop (size * (i - 1)) l))) (key (take size (drop (size * i) l)))
