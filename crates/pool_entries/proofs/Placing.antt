-- Lists in chunks of four: an entry is a chunk, so that a search by halves finds a map's among entries of rising maps (`searched`). Assumes nothing.
use Prim.Native.Nat.{ℕ, ◌+◌, ◌*◌, ◌/◌, ◌≤◌, ◌<◌}
use native.Mathlib.Omega.{arith}
use mathlib.Core.Path.{◌≡◌, refl, sym, ap, ◌∙◌}
use mathlib.Core.Bool.{Bool, true, false}
use mathlib.Core.List.{List, []}
use lib.ListN.{length, get_or}
use lib.Dec.{eqb, leb}
use borrow.Author.Tests.{leb-true, leb-false, eqb-true, eqb-false}
use mathlib.Core.Logic.{◌⊎◌, inl, inr, ⊎_elim}
use Rattle.std.specs.Prelude.{Option, IfSome, Result, Ok, Err}
use Rattle.std.specs.Result.{result_ok}
use Rattle.std.specs.Ordering.{nat_cmp, ordering_index}
use Rattle.std.proofs.lemmas.Cmp.{ranked}
use Rattle.std.proofs.lemmas.Bool.Decides.{nat_tests}
use Rattle.std.specs.Simd.{first_chunks}
use Rattle.std.specs.List.Sorted.{IsSearchInRange, IsBinarySearchResult, IsNonDecreasingBy}
use Rattle.catalogue.specs.Accession.{Accession, accession_count}
use Rattle.catalogue.specs.PoolLaws.{Rising}
use Rattle.catalogue.proofs.Chunks.{number_at, chunk-count}
use Rattle.pool_entries.specs.Steps.{entries_by, IsPlace}
use Rattle.pool_entries.proofs.Spreading.{entries-length}
use Rattle.pool_entries.proofs.Showing.{map_in_entry}

head_at : (n : ℕ) (l : List ℕ) (i : ℕ) (d : List ℕ) → i < n → get_or (get_or (first_chunks 4 n l) i d) 0 0 ≡ get_or l (4 * i) 0
head_at n l i d h =
    let front : 4 * i + 0 ≡ 4 * i = omega arith in
    number_at 4 n l i 0 d h (omega arith) ∙ ap (λ j. get_or l j 0) front

-- as many chunks as records
module _ (l : List ℕ) {chunks : List (List ℕ)} (E : chunks ≡ first_chunks 4 (length l / 4) l) where
  pub record-inside : {i : ℕ} → i < length chunks → i < accession_count l
  record-inside h = omega (arith, h, ap length E, chunk-count 4 (length l / 4) l)

module _
    (l : List ℕ) (map : ℕ) {chunks : List (List ℕ)} (E : chunks ≡ first_chunks 4 (length l / 4) l)
    (M : List ℕ) (f : ℕ → Option Accession) (rising : Rising M) (B : l ≡ entries_by f M) where
  counted : length l / 4 ≡ length M
  counted = omega (arith, ap length B, entries-length f M)

  count : length chunks ≡ length M
  count = ap length E ∙ chunk-count 4 (length l / 4) l ∙ counted

  column : (k : ℕ) (d : List ℕ) → k < length M → get_or (get_or chunks k d) 0 0 ≡ get_or M k 0
  column k d h =
      ap (λ t. get_or (get_or t k d) 0 0) E ∙ head_at (length l / 4) l k d (omega (arith, counted)) ∙ map_in_entry f M B k h

  -- the comparisons with the map rise along the entries, as a binary search asks
  rise : IsNonDecreasingBy (λ e. ordering_index (nat_cmp (get_or e 0 0) map)) chunks
  rise i j d a b = go (eqb i j) refl
    where
      higher : (a b : ℕ) → a ≤ b → ordering_index (nat_cmp a map) ≤ ordering_index (nat_cmp b map)
      higher a b le = grind (arith, nat_tests)

      go : (t : Bool) → eqb i j ≡ t → ordering_index (nat_cmp (get_or (get_or chunks i d) 0 0) map) ≤ ordering_index (nat_cmp (get_or (get_or chunks j d) 0 0) map)
      go true t = let same : i ≡ j = eqb-true i j t in higher _ _ (omega (arith, ap (λ k. get_or (get_or chunks k d) 0 0) same))
      go false t =
          let d' : (i ≡ j → ⊥) = eqb-false i j t in
          higher _ _ (omega (arith, column i d (omega (arith, count)), column j d (omega (arith, count)), rising i j (omega arith) (omega (arith, count))))

  -- what the search finds
  pub searched : (r : Result ℕ ℕ) → IsSearchInRange r (length chunks) → IsBinarySearchResult (λ e. nat_cmp (get_or e 0 0) map) chunks r → IsPlace M map (result_ok r)
  searched (Ok i) inside h = (omega (arith, count, inside), sym (column i [] (omega (arith, count, inside))) ∙ ranked _ map _ (sym (h [])))
  searched (Err i) inside h = λ k b e.
      let parted = h rise in
      ⊎_elim
      (λ low. let c : get_or (get_or chunks k []) 0 0 < map = ranked _ map _ (sym (parted.0 k [] (omega arith) low)) in omega (arith, c, column k [] b, e))
      (λ high. let c : map < get_or (get_or chunks k []) 0 0 = ranked _ map _ (sym (parted.1 k [] high (omega (arith, count)))) in omega (arith, c, column k [] b, e))
      (le_or_lt_of k i)
    where
      le_or_lt_of : (k i : ℕ) → (k < i) ⊎ (i ≤ k)
      le_or_lt_of k i = go (leb i k) refl
        where
          go : (t : Bool) → leb i k ≡ t → (k < i) ⊎ (i ≤ k)
          go true t = inr (leb-true i k t)
          go false t = inl (leb-false i k t)

-- and where it is
pub inside : (l : List ℕ) (chunks : List (List ℕ)) → length chunks ≡ length l / 4 → (r : Result ℕ ℕ) → IsSearchInRange r (length chunks) → IfSome (result_ok r) (λ k. 4 * (k + 1) ≤ length l)
inside l chunks e (Ok i) h = omega (arith, h, e)
inside l chunks e (Err i) h = tt
