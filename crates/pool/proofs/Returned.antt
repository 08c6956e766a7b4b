-- The theorems on the maps of a day, of what a call returned: of a call that met the contract of `maps_of_day` and answered with a count (`Called`). The entries
-- in the output rise by map; a map is among them exactly when one of its terms has the day; each shows its map's newest record. Assumes nothing.
use Prim.Native.Nat.{ℕ, zero, suc, ◌+◌, ◌*◌, ◌/◌, ◌<◌}
use native.Mathlib.Omega.{arith}
use mathlib.Core.Path.{◌≡◌, refl, sym, ap, ◌∙◌}
use mathlib.Core.Bool.{Bool, true, false, ◌&&◌, ◌||◌, or-false, or_assoc}
use Rattle.std.specs.Prelude.{Option, None, Some}
use mathlib.Core.List.{List, [], ◌∷◌, ◌++◌}
use lib.ListN.{length, get_or, drop}
use lib.Dec.{eqb, leb}
use Rattle.definitions.specs.Lists.{overwrite}
use Rattle.definitions.specs.Scan.{any_below_lem, only_if, concat_map, any, member}
use Rattle.definitions.specs.Refusals.{Refusal, or_else, first_below_lem, unless}
use Rattle.definitions.specs.Verdict.{refusal, first_refusal}
use Rattle.laws.specs.ListLaws.Below.{below_ext}
use Rattle.catalogue.specs.Dates.{Date, day_of}
use Rattle.catalogue.specs.Terms.{Days, term_at, term_count, is_finished, days_of, is_empty, contains, overlaps_earlier, term_fault, terms_refusal}
use Rattle.catalogue.specs.Accession.{Accession, accession_count, accessions_fault}
use Rattle.catalogue.specs.Accession as accession
use Rattle.catalogue.specs.Pool.{maps_of_day, newest, entry_of, entries_of, entries_on, asked_fault, pool_verdict, pool_at_exit}
use Rattle.catalogue.specs.PoolLaws.{pool_members}
use Rattle.catalogue.proofs.PoolLaws.{pool_rising}
use Rattle.pool_entries.specs.Steps.{entries_by}
use Rattle.pool_entries.proofs.Showing.{entries_of-length, map_at}

-- ---- no refusal has number 0

NonZero : Option Refusal → Type 0
NonZero o = (r : Refusal) → o ≡ Some r → r.number ≡ 0 → ⊥

none_some : {r : Refusal} → None ≡ Some r → ⊥
none_some z = let w : ◌≡◌ {A = ℕ} 0 1 = cc in omega arith

some_same : {r s : Refusal} → Some r ≡ Some s → r ≡ s
some_same z = cc

refusal-nonzero : (k : ℕ) (o : Option ℕ) → NonZero (refusal (suc k) o)
unfolding NonZero
refusal-nonzero k None r e z = none_some e
refusal-nonzero k (Some p) r e z = omega (arith, ap (λ s. s.number) (some_same e))

first_nonzero : (f : ℕ → Option Refusal) → ((i : ℕ) → NonZero (f i)) → (n : ℕ) → NonZero (first_below_lem n f)
unfolding NonZero first_below_lem
first_nonzero f h zero r e z = none_some e
first_nonzero f h (suc n) r e z = go (first_below_lem n f) (first_nonzero f h n) e
  where
    go : (o : Option Refusal) → NonZero o → or_else o (f n) ≡ Some r → ⊥
    go None ih e = h n r e z
    go (Some s) ih e = ih r e z

terms_nonzero : (terms : List ℕ) → NonZero (terms_refusal terms)
unfolding terms_refusal NonZero
terms_nonzero terms = first_nonzero (λ i. term_fault terms i (days_of (term_at terms i))) (λ i. fault i (days_of (term_at terms i))) (term_count terms)
  where
    only : (b : Bool) (i : ℕ) → NonZero (only_if b (record { number = 19; place = i }))
    only true i r e z = omega (arith, ap (λ s. s.number) (some_same e))
    only false i r e z = none_some e

    fault : (i : ℕ) (d : Option Days) → NonZero (term_fault terms i d)
    fault i None r e z = omega (arith, ap (λ s. s.number) (some_same e))
    fault i (Some d) r e z = only (is_empty d || overlaps_earlier terms i d) i r e z

accepted-step : (o : Option Refusal) → NonZero o → (l : List (Option Refusal)) (n count : ℕ) → record { number = 0; value = count } ≡ first_refusal (o ∷ l) n
    → (o ≡ None) × (record { number = 0; value = count } ≡ first_refusal l n)
unfolding NonZero
accepted-step None h l n count e = (refl, e)
accepted-step (Some r) h l n count e = absurd (h r refl (sym (ap (λ a. a.number) e)))

-- ---- tests along a list, by place

any-shift : (f : ℕ → Bool) (n : ℕ) → any_below_lem (suc n) f ≡ (f 0 || any_below_lem n (λ k. f (suc k)))
unfolding any_below_lem
any-shift f zero = sym (or-false (f 0))
any-shift f (suc n) = ap (λ b. b || f (suc n)) (any-shift f n) ∙ or_assoc (f 0) (any_below_lem n (λ k. f (suc k))) (f (suc n))

any-places : (f : ℕ → Bool) (l : List ℕ) → any f l ≡ any_below_lem (length l) (λ k. f (get_or l k 0))
unfolding any any_below_lem
any-places f [] = refl
any-places f (x ∷ l) = ap (λ b. f x || b) (any-places f l) ∙ sym (any-shift (λ k. f (get_or (x ∷ l) k 0)) (length l))

-- entry k, whole
entry_at_lem : (f : ℕ → Option Accession) (M rest : List ℕ) (k j : ℕ) → k < length M → j < 4 → get_or (entries_by f M ++ rest) (4 * k + j) 0 ≡ get_or (entry_of (get_or M k 0) (f (get_or M k 0))) j 0
unfolding entries_by concat_map
entry_at_lem f [] rest k j h b = absurd (omega arith)
entry_at_lem f (m ∷ M) rest zero j h b = go (f m) j b
  where
    go : (o : Option Accession) (j : ℕ) → j < 4 → get_or ((entry_of m o ++ concat_map (λ n. entry_of n (f n)) M) ++ rest) (4 * 0 + j) 0 ≡ get_or (entry_of m o) j 0
    go None zero b = refl
    go None (suc zero) b = refl
    go None (suc (suc zero)) b = refl
    go None (suc (suc (suc zero))) b = refl
    go None (suc (suc (suc (suc j)))) b = absurd (omega arith)
    go (Some r) zero b = refl
    go (Some r) (suc zero) b = refl
    go (Some r) (suc (suc zero)) b = refl
    go (Some r) (suc (suc (suc zero))) b = refl
    go (Some r) (suc (suc (suc (suc j)))) b = absurd (omega arith)
entry_at_lem f (m ∷ M) rest (suc k) j h b = go (f m) (entry_at_lem f M rest k j (omega arith) b)
  where
    four : 4 * suc k + j ≡ suc (suc (suc (suc (4 * k + j))))
    four = omega arith

    go : (o : Option Accession) → get_or (concat_map (λ n. entry_of n (f n)) M ++ rest) (4 * k + j) 0 ≡ get_or (entry_of (get_or M k 0) (f (get_or M k 0))) j 0
        → get_or ((entry_of m o ++ concat_map (λ n. entry_of n (f n)) M) ++ rest) (4 * suc k + j) 0 ≡ get_or (entry_of (get_or M k 0) (f (get_or M k 0))) j 0
    go None e = rw four e
    go (Some r) e = rw four e

-- ---- what a call returned

pub record Called (terms records : List ℕ) (asked : Date) (old : List ℕ) (count : ℕ) (new : List ℕ) : Type 0 where
  pub answer : record { number = 0; value = count } ≡ pool_verdict terms records asked (length old)
  pub output : new ≡ pool_at_exit 0 terms records asked old

-- what its answer tells
pub record Accepted (terms records : List ℕ) (asked : Date) (old : List ℕ) (count : ℕ) (new : List ℕ) : Type 0 where
  pub day : ℕ
  pub asked_is : day_of asked ≡ Some day
  pub terms_keep : terms_refusal terms ≡ None
  pub records-keep : accessions_fault records ≡ None
  pub count_is : length (maps_of_day terms day) ≡ count
  pub stored : new ≡ overwrite (entries_of records day (accession_count records) (maps_of_day terms day)) old

module _ {terms records : List ℕ} {asked : Date} {old : List ℕ} {count : ℕ} {new : List ℕ} where
  pub accepted : Called terms records asked old count new → Accepted terms records asked old count new
  unfolding pool_verdict
  accepted C = go (day_of asked) refl four.0 five.1
    where
      E : List ℕ
      E = entries_on terms records (day_of asked)

      last : List (Option Refusal)
      last = refusal 10 (unless (leb (length E) (length old))) ∷ []

      one : (refusal 3 (unless (is_finished terms && accession.is_finished records)) ≡ None) × (record { number = 0; value = count } ≡ first_refusal (refusal 17 (accessions_fault records) ∷ terms_refusal terms ∷ refusal 18 (asked_fault terms (day_of asked)) ∷ last) (length E / 4))
      one = accepted-step (refusal 3 (unless (is_finished terms && accession.is_finished records))) (refusal-nonzero 2 (unless (is_finished terms && accession.is_finished records))) (refusal 17 (accessions_fault records) ∷ terms_refusal terms ∷ refusal 18 (asked_fault terms (day_of asked)) ∷ last) (length E / 4) count C.answer

      two : (refusal 17 (accessions_fault records) ≡ None) × (record { number = 0; value = count } ≡ first_refusal (terms_refusal terms ∷ refusal 18 (asked_fault terms (day_of asked)) ∷ last) (length E / 4))
      two = accepted-step (refusal 17 (accessions_fault records)) (refusal-nonzero 16 (accessions_fault records)) (terms_refusal terms ∷ refusal 18 (asked_fault terms (day_of asked)) ∷ last) (length E / 4) count one.1

      three : (terms_refusal terms ≡ None) × (record { number = 0; value = count } ≡ first_refusal (refusal 18 (asked_fault terms (day_of asked)) ∷ last) (length E / 4))
      three = accepted-step (terms_refusal terms) (terms_nonzero terms) (refusal 18 (asked_fault terms (day_of asked)) ∷ last) (length E / 4) count two.1

      four : (refusal 18 (asked_fault terms (day_of asked)) ≡ None) × (record { number = 0; value = count } ≡ first_refusal last (length E / 4))
      four = accepted-step (refusal 18 (asked_fault terms (day_of asked))) (refusal-nonzero 17 (asked_fault terms (day_of asked))) last (length E / 4) count three.1

      five : (refusal 10 (unless (leb (length E) (length old))) ≡ None) × (record { number = 0; value = count } ≡ first_refusal [] (length E / 4))
      five = accepted-step (refusal 10 (unless (leb (length E) (length old)))) (refusal-nonzero 9 (unless (leb (length E) (length old)))) [] (length E / 4) count four.1

      no_fault_lem : (o : Option ℕ) → refusal 17 o ≡ None → o ≡ None
      no_fault_lem None e = refl
      no_fault_lem (Some p) e = absurd (none_some (sym e))

      go : (o : Option ℕ) → day_of asked ≡ o → refusal 18 (asked_fault terms o) ≡ None → record { number = 0; value = count } ≡ first_refusal [] (length E / 4) → Accepted terms records asked old count new
      go None d e f = absurd (none_some (sym e))
      go (Some day) d e f =
          let listed : E ≡ entries_of records day (accession_count records) (maps_of_day terms day) = ap (entries_on terms records) d in
          let size : length E ≡ 4 * length (maps_of_day terms day) = ap length listed ∙ entries_of-length records day (accession_count records) (maps_of_day terms day) in
          record {
            day = day;
            asked_is = d;
            terms_keep = three.0;
            records-keep = no_fault_lem (accessions_fault records) two.0;
            count_is = omega (arith, size, ap (λ a. a.value) f);
            stored = C.output ∙ ap (λ l. overwrite l old) listed;
          }

  module _ (A : Accepted terms records asked old count new) where
    -- the map of entry k
    map_is : (k : ℕ) → k < count → get_or new (4 * k) 0 ≡ get_or (maps_of_day terms A.day) k 0
    unfolding entries_of entries_by
    map_is k h =
        let M = maps_of_day terms A.day in
        let E = entries_of records A.day (accession_count records) M in
        ap (λ l. get_or l (4 * k) 0) A.stored ∙ map_at (λ m. newest records m A.day (accession_count records)) M (drop (length E) old) k (omega (arith, A.count_is))

    -- the list strictly ascends, so that each map is there once
    pub returned-rises : (j k : ℕ) → j < k → k < count → get_or new (4 * j) 0 < get_or new (4 * k) 0
    returned-rises j k b h =
        omega (arith, map_is j (omega arith), map_is k h, pool_rising terms A.day A.terms_keep j k b (omega (arith, A.count_is)))

    -- a map is listed exactly when one of its terms has the day
    pub returned_members : (m : ℕ)
        → any_below_lem count (λ k. eqb m (get_or new (4 * k) 0)) ≡ any_below_lem (term_count terms) (λ i. contains A.day (days_of (term_at terms i)) && eqb m (term_at terms i).on_map)
    unfolding member
    returned_members m =
        let M = maps_of_day terms A.day in
        below_ext count (λ k. eqb m (get_or new (4 * k) 0)) (λ k. eqb m (get_or M k 0)) (λ k h. ap (eqb m) (map_is k h))
        ∙ ap (λ n. any_below_lem n (λ k. eqb m (get_or M k 0))) (sym A.count_is)
        ∙ sym (any-places (eqb m) M)
        ∙ pool_members terms A.day m

    -- entry k shows its map's newest record of the day or earlier, or that there is none (`newest_is`, `none_newest` and `none_shown` of `catalogue`, PoolLaws)
    pub returned-shows : (k j : ℕ) → k < count → j < 4
        → get_or new (4 * k + j) 0 ≡ get_or (entry_of (get_or new (4 * k) 0) (newest records (get_or new (4 * k) 0) A.day (accession_count records))) j 0
    unfolding entries_of entries_by
    returned-shows k j h b =
        let M = maps_of_day terms A.day in
        let E = entries_of records A.day (accession_count records) M in
        ap (λ l. get_or l (4 * k + j) 0) A.stored
        ∙ entry_at_lem (λ m. newest records m A.day (accession_count records)) M (drop (length E) old) k j (omega (arith, A.count_is)) b
        ∙ ap (λ m. get_or (entry_of m (newest records m A.day (accession_count records))) j 0) (sym (map_is k h))
