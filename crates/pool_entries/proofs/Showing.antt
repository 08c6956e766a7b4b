-- A record shown in the entry of its map: the entries' maps rise, so that no other entry is of that map. Over the whole list of records each entry then shows
-- the last that is of its map and of the day or earlier (`Showing`). Assumes nothing.
use Prim.Native.Nat.{ℕ, zero, suc, ◌+◌, ◌*◌, ◌≤◌, ◌<◌}
use native.Mathlib.Omega.{arith}
use native.Mathlib.Nat.{le_antisymm}
use native.Mathlib.Numerals.{add-one}
use mathlib.Core.Path.{◌≡◌, refl, sym, ap, ap₂, subst, ◌∙◌}
use mathlib.Core.Bool.{Bool, true, false, ◌&&◌, cond, false≢true}
use Rattle.std.specs.Prelude.{Option, None, Some}
use mathlib.Core.List.{List, [], ◌∷◌, ◌++◌, append-nil}
use lib.ListN.{length, get_or, set, take, drop}
use lib.Seq.{sets, take-append_seam}
use lib.Dec.{eqb, leb}
use borrow.Author.Tests.{eq-eqb, ne_eqb, le-leb, lt-leb, leb-true, leb-false}
use Rattle.definitions.specs.Scan.{concat_map}
use Rattle.catalogue.specs.Accession.{Accession, accession_at, accession_count}
use Rattle.catalogue.specs.Pool.{entry_of, newest, entries_of}
use Rattle.catalogue.specs.PoolLaws.{Rising}
use Rattle.pool_entries.specs.Steps.{entries_by, blank, Found, Shown, RecordsShown}
use Rattle.pool_entries.proofs.Spreading.{entries-length}

-- ---- entries, one by one

pub entries_ext : (f g : ℕ → Option Accession) (M : List ℕ) → ((k : ℕ) → k < length M → f (get_or M k 0) ≡ g (get_or M k 0)) → entries_by f M ≡ entries_by g M
unfolding entries_by concat_map
entries_ext f g [] h = refl
entries_ext f g (m ∷ M) h = ap₂ (λ o l. entry_of m o ++ l) (h 0 (omega arith)) (entries_ext f g M (λ k b. h (suc k) (omega arith)))

-- the map of entry k
pub map_at : (f : ℕ → Option Accession) (M rest : List ℕ) (k : ℕ) → k < length M → get_or (entries_by f M ++ rest) (4 * k) 0 ≡ get_or M k 0
unfolding entries_by concat_map
map_at f [] rest k h = absurd (omega arith)
map_at f (m ∷ M) rest zero h = go (f m)
  where
    go : (o : Option Accession) → get_or ((entry_of m o ++ concat_map (λ n. entry_of n (f n)) M) ++ rest) 0 0 ≡ m
    go None = refl
    go (Some r) = refl
map_at f (m ∷ M) rest (suc k) h = go (f m) (map_at f M rest k (omega arith))
  where
    four : 4 * suc k ≡ suc (suc (suc (suc (4 * k))))
    four = omega arith

    go : (o : Option Accession) → get_or (concat_map (λ n. entry_of n (f n)) M ++ rest) (4 * k) 0 ≡ get_or M k 0
        → get_or ((entry_of m o ++ concat_map (λ n. entry_of n (f n)) M) ++ rest) (4 * suc k) 0 ≡ get_or M k 0
    go None e = rw four e
    go (Some r) e = rw four e

-- the three numbers behind the map of entry q replaced
module _ (f g : ℕ → Option Accession) (r : Accession) where
  shown_before : (M rest : List ℕ) (q : ℕ) → q < length M → g (get_or M q 0) ≡ Some r → ((k : ℕ) → k < length M → (k ≡ q → ⊥) → g (get_or M k 0) ≡ f (get_or M k 0))
      → sets (entries_by f M ++ rest) (4 * q + 1) (r.own ∷ r.day ∷ r.superseded ∷ []) ≡ entries_by g M ++ rest
  unfolding entries_by concat_map
  shown_before [] rest q h e o = absurd (omega arith)
  shown_before (m ∷ M) rest zero h e o = rw e (go (f m) (entries_ext g f M (λ k b. o (suc k) (omega arith) (λ z. omega arith))))
    where
      go : (o : Option Accession) → concat_map (λ n. entry_of n (g n)) M ≡ concat_map (λ n. entry_of n (f n)) M
          → sets ((entry_of m o ++ concat_map (λ n. entry_of n (f n)) M) ++ rest) (4 * 0 + 1) (r.own ∷ r.day ∷ r.superseded ∷ [])
          ≡ m ∷ r.own ∷ r.day ∷ r.superseded ∷ (concat_map (λ n. entry_of n (g n)) M ++ rest)
      go None p = ap {B = List ℕ} (λ l. m ∷ r.own ∷ r.day ∷ r.superseded ∷ (l ++ rest)) (sym p)
      go (Some s) p = ap {B = List ℕ} (λ l. m ∷ r.own ∷ r.day ∷ r.superseded ∷ (l ++ rest)) (sym p)
  shown_before (m ∷ M) rest (suc q) h e o = rw (o 0 (omega arith) (λ z. omega arith), five) (go (f m) (shown_before M rest q (omega arith) e (λ k b d. o (suc k) (omega arith) (λ z. d (omega arith)))))
    where
      five : 4 * suc q + 1 ≡ suc (suc (suc (suc (4 * q + 1))))
      five = omega arith

      go : (o : Option Accession)
          → sets (concat_map (λ n. entry_of n (f n)) M ++ rest) (4 * q + 1) (r.own ∷ r.day ∷ r.superseded ∷ []) ≡ concat_map (λ n. entry_of n (g n)) M ++ rest
          → sets ((entry_of m o ++ concat_map (λ n. entry_of n (f n)) M) ++ rest) (suc (suc (suc (suc (4 * q + 1))))) (r.own ∷ r.day ∷ r.superseded ∷ [])
          ≡ (entry_of m o ++ concat_map (λ n. entry_of n (g n)) M) ++ rest
      go None p = ap {B = List ℕ} (λ l. m ∷ 0 ∷ 0 ∷ 0 ∷ l) p
      go (Some s) p = ap {B = List ℕ} (λ l. m ∷ s.own ∷ s.day ∷ s.superseded ∷ l) p

  shown_at : (M : List ℕ) (q : ℕ) → q < length M → g (get_or M q 0) ≡ Some r → ((k : ℕ) → k < length M → (k ≡ q → ⊥) → g (get_or M k 0) ≡ f (get_or M k 0))
      → sets (entries_by f M) (4 * q + 1) (r.own ∷ r.day ∷ r.superseded ∷ []) ≡ entries_by g M
  shown_at M q h e o =
      ap (λ l. sets l (4 * q + 1) (r.own ∷ r.day ∷ r.superseded ∷ [])) (sym (append-nil (entries_by f M))) ∙ shown_before M [] q h e o ∙ append-nil (entries_by g M)

-- ---- one record

with_record : Accession → (ℕ → Option Accession) → ℕ → Option Accession
with_record r f m = cond (eqb r.on_map m) (Some r) (f m)

pub map_in_entry : {entries : List ℕ} (f : ℕ → Option Accession) (M : List ℕ) → entries ≡ entries_by f M → (k : ℕ) → k < length M → get_or entries (4 * k) 0 ≡ get_or M k 0
map_in_entry f M e k h = ap (λ l. get_or l (4 * k) 0) (e ∙ sym (append-nil (entries_by f M))) ∙ map_at f M [] k h

module _ (old : List ℕ) (r : Accession) where
  -- no entry is of the record's map
  pub none_shown : Found old r.on_map None → Shown old r old
  unfolding with_record
  none_shown F M f R B =
      B ∙ entries_ext f (with_record r f) M (λ k b. sym (rw (ne_eqb r.on_map (get_or M k 0) (λ e. F M f R B k b (sym e))) refl))

  -- entry q is
  pub its_map : {new : List ℕ} (q : ℕ) → Found old r.on_map (Some q) → new ≡ sets old (4 * q + 1) (r.own ∷ r.day ∷ r.superseded ∷ []) → Shown old r new
  unfolding with_record
  its_map q F s M f R B =
      let at = F M f R B in
      s
      ∙ ap (λ l. sets l (4 * q + 1) (r.own ∷ r.day ∷ r.superseded ∷ [])) B
      ∙ shown_at f (with_record r f) r M q at.0 (rw (eq-eqb r.on_map (get_or M q 0) (sym at.1)) refl)
      (λ k b d. rw (ne_eqb r.on_map (get_or M k 0) (λ z. other M R k q b at.0 d (sym z ∙ sym at.1))) refl)
    where
      -- maps that rise have no entry twice
      other : (M : List ℕ) → Rising M → (k q : ℕ) → k < length M → q < length M → (k ≡ q → ⊥) → get_or M k 0 ≡ get_or M q 0 → ⊥
      other M R k q a b d e = go (leb q k) refl
        where
          go : (t : Bool) → leb q k ≡ t → ⊥
          go true t = let low : q ≤ k = leb-true q k t in omega (arith, e, R q k (omega (arith, low, λ (z : k ≡ q). d z)) a)
          go false t = omega (arith, e, R k q (leb-false q k t) b)

pub three-stored : (l : List ℕ) (k v w x : ℕ) → set (set (set l (k + 1) v) (k + 2) w) (k + 3) x ≡ sets l (k + 1) (v ∷ w ∷ x ∷ [])
three-stored l k v w x =
    let two : k + 2 ≡ suc (k + 1) = omega arith in
    let three : k + 3 ≡ suc (suc (k + 1)) = omega arith in
    (λ i. set (set (set l (k + 1) v) (two i) w) (three i) x)

-- ---- record i of the list

-- what is shown of one record more
newest_next : (records : List ℕ) (m day i : ℕ)
    → newest records m day (i + 1) ≡ cond (eqb (accession_at records i).on_map m && leb (accession_at records i).day day) (Some (accession_at records i)) (newest records m day i)
unfolding newest
newest_next records m day i = rw (add-one i) refl

and_known : (a b : Bool) {A : Type 0} (x y : A) → b ≡ true → cond (a && b) x y ≡ cond a x y
and_known true true x y e = refl
and_known false b x y e = refl
and_known true false x y e = absurd (false≢true e)

and_not : (a b : Bool) {A : Type 0} (x y : A) → b ≡ false → cond (a && b) x y ≡ y
and_not true false x y e = refl
and_not false b x y e = refl
and_not true true x y e = absurd (false≢true (sym e))

-- record i is shown, and becomes what is shown of one record more
abbrev RecordShown : List ℕ → List ℕ → ℕ → ℕ → List ℕ → Type 0
RecordShown old records i day new = (M : List ℕ) → Rising M → old ≡ entries_of records day i M → new ≡ entries_of records day (i + 1) M

module _ {old new : List ℕ} (records : List ℕ) (i day : ℕ) where
  record_shown : Shown old (accession_at records i) new → (accession_at records i).day ≤ day → RecordShown old records i day new
  unfolding entries_of entries_by
  record_shown S h M R B =
      S M (λ m. newest records m day i) R B
      ∙ entries_ext (λ m. cond (eqb (accession_at records i).on_map m) (Some (accession_at records i)) (newest records m day i)) (λ m. newest records m day (i + 1)) M
      (λ k b.
      sym
      (newest_next records (get_or M k 0) day i
      ∙ and_known (eqb (accession_at records i).on_map (get_or M k 0)) (leb (accession_at records i).day day) (Some (accession_at records i)) (newest records (get_or M k 0) day i) (le-leb (accession_at records i).day day h)))

module _ {old : List ℕ} (records : List ℕ) (i day : ℕ) where
  record_late : day < (accession_at records i).day → RecordShown old records i day old
  unfolding entries_of entries_by
  record_late h M R B =
      B
      ∙ entries_ext (λ m. newest records m day i) (λ m. newest records m day (i + 1)) M
      (λ k b.
      sym
      (newest_next records (get_or M k 0) day i
      ∙ and_not (eqb (accession_at records i).on_map (get_or M k 0)) (leb (accession_at records i).day day) (Some (accession_at records i)) (newest records (get_or M k 0) day i) (lt-leb (accession_at records i).day day h)))

-- ---- all records

-- what is shown of the first i records
pub record Showing (old records : List ℕ) (day : ℕ) (new : List ℕ) (i : ℕ) : Type 0 where
  pub within : i ≤ accession_count records
  pub so_far : (M : List ℕ) → Rising M → old ≡ blank M → new ≡ entries_of records day i M

pub entries_of-length : (records : List ℕ) (day n : ℕ) (M : List ℕ) → length (entries_of records day n M) ≡ 4 * length M
unfolding entries_of entries_by
entries_of-length records day n M = entries-length (λ m. newest records m day n) M

module _ {old records : List ℕ} {day : ℕ} where
  pub showing_starts : Showing old records day old 0
  unfolding entries_of entries_by newest
  showing_starts = record { within = omega arith; so_far = λ M R B. B }

  module _ {new : List ℕ} {i : ℕ} (S : Showing old records day new i) where
    goes_on : {next : List ℕ} → i < accession_count records → RecordShown new records i day next → Showing old records day next (i + 1)
    goes_on h N = record { within = omega arith; so_far = λ M R B. N M R (S.so_far M R B) }

    -- record i is shown, or is of a later day
    pub showing_shown : {next : List ℕ} (r : Accession) → r ≡ accession_at records i → i < accession_count records → r.day ≤ day → Shown new r next
        → Showing old records day next (i + 1)
    showing_shown {next} r e h d N =
        goes_on h (record_shown records i day (subst (λ x. Shown new x next) e N) (omega (arith, d, ap (λ x. x.day) e)))

    pub showing_late : (r : Accession) → r ≡ accession_at records i → i < accession_count records → day < r.day → Showing old records day new (i + 1)
    showing_late r e h d = goes_on h (record_late records i day (omega (arith, d, ap (λ x. x.day) e)))

-- over the entries at the front of a list
pub showing_over : {old records : List ℕ} {day maps : ℕ} {new : List ℕ} {i : ℕ} → Showing (take (4 * maps) old) records day new i → accession_count records ≤ i
    → RecordsShown old maps records day (new ++ drop (4 * maps) old)
showing_over {old} {records} {day} {maps} {new} {i} S h M R n B =
    let E = entries_of records day (accession_count records) M in
    let full : length (blank M) ≡ 4 * maps = omega (arith, entries-length (λ m. None) M, n) in
    let front : take (4 * maps) old ≡ blank M = ap₂ take (sym full) B ∙ take-append_seam (blank M) (drop (length (blank M)) old) in
    let long : length E ≡ 4 * maps = omega (arith, entries_of-length records day (accession_count records) M, n) in
    ap₂ (λ u v. u ++ v) (S.so_far M R front ∙ ap (λ k. entries_of records day k M) (le_antisymm S.within h)) (ap (λ k. drop k old) (sym long))
