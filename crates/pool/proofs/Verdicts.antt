-- The checks in their order: what those of the two lists find is what the whole verdict says first, and where they find nothing the day asked for and the
-- output's room decide. Assumes nothing.
use Prim.Native.Nat.{ℕ, zero, suc, ◌*◌, ◌/◌, ◌≤◌, ◌<◌}
use native.Mathlib.Omega.{arith}
use mathlib.Core.Path.{◌≡◌, refl, sym, ap, ◌∙◌}
use mathlib.Core.Bool.{Bool, true, false, ◌&&◌}
use Rattle.std.specs.Prelude.{Option, None, Some, Ok, Err}
use mathlib.Core.List.{List, [], ◌∷◌}
use lib.ListN.{length}
use lib.Dec.{ltb, leb}
use borrow.Author.Tests.{le-leb, lt-leb, leb-true, leb-false}
use Rattle.definitions.specs.Lists.{overwrite}
use Rattle.definitions.specs.Refusals.{Refusal, or_else, unless}
use Rattle.definitions.specs.Verdict.{Answer, refusal, first_refusal}
use Rattle.laws.specs.ListLaws.Overwritten.{overwrite-twice}
use Rattle.laws.specs.ListLaws.SortedMembers.{length-sort}
use Rattle.catalogue.specs.Dates.{Date, day_of}
use Rattle.catalogue.specs.Terms.{term_count, is_finished, terms_refusal}
use Rattle.catalogue.specs.Accession.{accession_count, accessions_fault}
use Rattle.catalogue.specs.Accession as accession
use Rattle.catalogue.specs.Pool.{maps_in, maps_of_day, entries_of, entries_on, asked_fault, pool_verdict}
use Rattle.catalogue.proofs.PoolLaws.{pool_rising}
use Rattle.pool_entries.specs.Steps.{blank, RecordsShown}
use Rattle.pool_entries.proofs.Showing.{entries_of-length}
use Rattle.pool_entries.proofs.Spreading.{entries-length}
use Rattle.refusals.specs.declared.Refusal as code
use Rattle.refusals.specs.Refusals.{number_of, refusal_of}
use Rattle.refusals.proofs.Steps.{stopped, positive}
use Rattle.refusals.proofs.Steps.{passed as passed-check}
use Rattle.pool.specs.Contract.{lists_refusal, output_by, Listed}

-- ---- the lists

module _ (terms records : List ℕ) where
  or_none : {A : Type 0} (a b : Option A) → or_else a b ≡ None → b ≡ None
  or_none None b e = e
  or_none (Some x) b e = absurd (some_none e)
    where
      some_none : Some x ≡ None → ⊥
      some_none z = let w : ◌≡◌ {A = ℕ} 0 1 = cc in omega arith

  pub terms_fine : lists_refusal terms records ≡ None → terms_refusal terms ≡ None
  unfolding lists_refusal
  terms_fine e =
      or_none (refusal 17 (accessions_fault records)) (terms_refusal terms)
      (or_none (refusal 3 (unless (is_finished terms && accession.is_finished records))) (or_else (refusal 17 (accessions_fault records)) (terms_refusal terms)) e)

-- ---- the first of five

abbrev said : Refusal → Answer
said r = record { number = r.number; value = r.place }

first_found : (a b c : Option Refusal) (l : List (Option Refusal)) (n : ℕ) (r : Refusal) → or_else a (or_else b c) ≡ Some r → first_refusal (a ∷ b ∷ c ∷ l) n ≡ said r
first_found (Some s) b c l n r e = ap said (same e)
  where
    same : Some s ≡ Some r → s ≡ r
    same z = cc
first_found None (Some s) c l n r e = ap said (same e)
  where
    same : Some s ≡ Some r → s ≡ r
    same z = cc
first_found None None (Some s) l n r e = ap said (same e)
  where
    same : Some s ≡ Some r → s ≡ r
    same z = cc
first_found None None None l n r e = absurd (none_some e)
  where
    none_some : None ≡ Some r → ⊥
    none_some z = let w : ◌≡◌ {A = ℕ} 0 1 = cc in omega arith

first_passed : (a b c : Option Refusal) (l : List (Option Refusal)) (n : ℕ) → or_else a (or_else b c) ≡ None → first_refusal (a ∷ b ∷ c ∷ l) n ≡ first_refusal l n
first_passed (Some s) b c l n e = absurd (some_none e)
  where
    some_none : Some s ≡ None → ⊥
    some_none z = let w : ◌≡◌ {A = ℕ} 0 1 = cc in omega arith
first_passed None (Some s) c l n e = absurd (some_none e)
  where
    some_none : Some s ≡ None → ⊥
    some_none z = let w : ◌≡◌ {A = ℕ} 0 1 = cc in omega arith
first_passed None None (Some s) l n e = absurd (some_none e)
  where
    some_none : Some s ≡ None → ⊥
    some_none z = let w : ◌≡◌ {A = ℕ} 0 1 = cc in omega arith
first_passed None None None l n e = refl

module _ (terms records : List ℕ) (asked : Date) (room : ℕ) where
  pub lists-refused : {r : Refusal} → Some r ≡ lists_refusal terms records → record { number = r.number; value = r.place } ≡ pool_verdict terms records asked room
  unfolding lists_refusal pool_verdict
  lists-refused {r} e =
      let E = entries_on terms records (day_of asked) in
      sym
      (first_found (refusal 3 (unless (is_finished terms && accession.is_finished records))) (refusal 17 (accessions_fault records)) (terms_refusal terms)
      (refusal 18 (asked_fault terms (day_of asked)) ∷ refusal 10 (unless (leb (length E) room)) ∷ []) (length E / 4) r (sym e))

  passed : lists_refusal terms records ≡ None
      → pool_verdict terms records asked room ≡ first_refusal
      (refusal 18 (asked_fault terms (day_of asked)) ∷ refusal 10 (unless (leb (length (entries_on terms records (day_of asked))) room)) ∷ [])
      (length (entries_on terms records (day_of asked)) / 4)
  unfolding lists_refusal pool_verdict
  passed e =
      let E = entries_on terms records (day_of asked) in
      first_passed (refusal 3 (unless (is_finished terms && accession.is_finished records))) (refusal 17 (accessions_fault records)) (terms_refusal terms)
      (refusal 18 (asked_fault terms (day_of asked)) ∷ refusal 10 (unless (leb (length E) room)) ∷ []) (length E / 4) e

  pub day-refused : None ≡ lists_refusal terms records → None ≡ day_of asked → record { number = 18; value = term_count terms } ≡ pool_verdict terms records asked room
  day-refused e d =
      sym
      (passed (sym e)
      ∙ ap
      (λ o.
      first_refusal (refusal 18 (asked_fault terms o) ∷ refusal 10 (unless (leb (length (entries_on terms records o)) room)) ∷ []) (length (entries_on terms records o) / 4))
      (sym d))

  pub day-listed : {day : ℕ} → None ≡ lists_refusal terms records → Some day ≡ day_of asked
      → first_refusal (refusal 10 (unless (leb (length (entries_on terms records (Some day))) room)) ∷ []) (length (entries_on terms records (Some day)) / 4)
      ≡ pool_verdict terms records asked room
  day-listed e d =
      sym
      (passed (sym e)
      ∙ ap
      (λ o.
      first_refusal (refusal 18 (asked_fault terms o) ∷ refusal 10 (unless (leb (length (entries_on terms records o)) room)) ∷ []) (length (entries_on terms records o) / 4))
      (sym d))

-- ---- the room

module _ (terms records : List ℕ) (day : ℕ) {maps : ℕ} (m : maps ≡ length (maps_in terms day)) where
  pub need : length (entries_on terms records (Some day)) ≡ 4 * maps
  unfolding maps_of_day
  need = entries_of-length records day (accession_count records) (maps_of_day terms day) ∙ ap (λ n. 4 * n) (length-sort ltb (maps_in terms day) ∙ sym m)

  maps-listed : length (maps_of_day terms day) ≡ maps
  unfolding maps_of_day
  maps-listed = length-sort ltb (maps_in terms day) ∙ sym m

module _ (terms records : List ℕ) (day : ℕ) (old : List ℕ) {maps : ℕ} (m : maps ≡ length (maps_in terms day)) where
  abbrev needed : length (entries_on terms records (Some day)) ≡ 4 * maps
  needed = need terms records day m

  -- the test of the room, in maps or in numbers
  pub room_same : leb maps (length old / 4) ≡ leb (length (entries_on terms records (Some day))) (length old)
  room_same = go (leb maps (length old / 4)) refl
    where
      go : (b : Bool) → leb maps (length old / 4) ≡ b → b ≡ leb (length (entries_on terms records (Some day))) (length old)
      go true t =
          let fits : maps ≤ length old / 4 = leb-true maps (length old / 4) t in
          sym (le-leb (length (entries_on terms records (Some day))) (length old) (omega (arith, needed, fits)))
      go false t =
          let short : length old / 4 < maps = leb-false maps (length old / 4) t in
          sym (lt-leb (length (entries_on terms records (Some day))) (length old) (omega (arith, needed, short)))

  pub no_room : (r : code.Refusal) → refusal 10 (unless (leb maps (length old / 4))) ≡ Some (refusal_of r) → Listed terms records day old (Err r) old
  no_room r e =
      let E = entries_on terms records (Some day) in
      record {
        answer = stopped [] (length E / 4) r (ap (λ b. refusal 10 (unless b)) (sym room_same) ∙ e);
        output = left_alone (number_of r.cause) (positive r.cause);
      }
    where
      left_alone : (n : ℕ) → 1 ≤ n → old ≡ output_by n (entries_on terms records (Some day)) old
      left_alone zero h = absurd (omega arith)
      left_alone (suc n) h = refl

  pub room-enough : {new : List ℕ} → refusal 10 (unless (leb maps (length old / 4))) ≡ None → new ≡ overwrite (entries_of records day (accession_count records) (maps_of_day terms day)) old
      → Listed terms records day old (Ok maps) new
  room-enough h e =
      let E = entries_on terms records (Some day) in
      let count : maps ≡ length E / 4 = omega (arith, needed) in
      record {
        answer = passed-check [] (length E / 4) (ap (λ b. refusal 10 (unless b)) (sym room_same) ∙ h) (λ i. record { number = 0; value = count i });
        output = e;
      }

-- ---- the entries, and the records shown in them

pub shown-over : (terms records : List ℕ) (day : ℕ) (old put new : List ℕ) (maps : ℕ) → maps ≡ length (maps_in terms day) → terms_refusal terms ≡ None
    → put ≡ overwrite (blank (maps_of_day terms day)) old → RecordsShown put maps records day new
    → new ≡ overwrite (entries_of records day (accession_count records) (maps_of_day terms day)) old
shown-over terms records day old put new maps m ok p S =
    let M = maps_of_day terms day in
    let E = entries_of records day (accession_count records) M in
    let again : put ≡ overwrite (blank M) put = p ∙ sym (overwrite-twice (blank M) (blank M) old (omega arith)) ∙ ap (overwrite (blank M)) (sym p) in
    S M (pool_rising terms day ok) (maps-listed terms records day m) again
    ∙ ap (overwrite E) p
    ∙ overwrite-twice E (blank M) old (omega (arith, entries-length (λ m. None) M, entries_of-length records day (accession_count records) M))
