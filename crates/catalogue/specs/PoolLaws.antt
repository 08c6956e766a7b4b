-- What is listed of a day: a map exactly when one of its terms has the day (`pool_members`), in strictly rising order, so each once (`pool_rising`). Its entry
-- shows a record of the map, of that day or earlier, after which every record of the map is of a later day (`newest_is`), or none exactly when there is none
-- (`none_newest`, `none_shown`). Assumes nothing.
use Prim.Native.Nat.{ℕ, zero, suc, ◌+◌, ◌≤◌, ◌<◌}
use native.Mathlib.Omega.{arith}
use Rattle.std.proofs.Math.Path.{◌≡◌, refl, ap}
use Rattle.std.proofs.Common.{sym, ap₂, subst, ◌∙◌}
use Rattle.std.specs.Prelude.{Bool, ◌&&◌, ◌||◌, cond, List, [], ◌∷◌, get_or, ltb, leb, Option, None, Some}
use Rattle.std.proofs.Math.Bool.{true, false, or-false}
use Rattle.std.proofs.lemmas.Bool.{false≢true}
use Rattle.std.proofs.Math.ListN.{length, length-append}
use Rattle.std.proofs.Math.Dec.{eqb}
use borrow.Author.Tests.{eq-eqb, eqb-true, eqb-false, ltb-true, ltb-false, leb-true, leb-false}
use Rattle.definitions.specs.Scan.{any_below_lem, only_if, to_list, collect, any, filter, member}
use Rattle.laws.specs.ListLaws.Tests.{both}
use Rattle.laws.specs.ListLaws.Below.{below_ext}
use Rattle.laws.specs.ListLaws.Lists.{any_append, filter-append}
use Rattle.laws.specs.ListLaws.SortedMembers.{any-sort, number-order}
use Rattle.laws.specs.OrderLaws.StableSort.{After, Sorted}
use Rattle.catalogue.specs.Accession.{Accession, accession_at}
use Rattle.catalogue.specs.Terms.{term_at, term_count, days_of, contains}
use Rattle.catalogue.specs.Pool.{maps_in, maps_of_day, newest, entry_of}

-- ---- a map is listed exactly when one of its terms has the day

any-collect : (f : ℕ → Bool) (F : ℕ → Option ℕ) (n : ℕ) → any f (collect n F) ≡ any_below_lem n (λ i. any f (to_list (F i)))
unfolding any collect any_below_lem
any-collect f F zero = refl
any-collect f F (suc n) = any_append f (collect n F) (to_list (F n)) ∙ ap (λ b. b || any f (to_list (F n))) (any-collect f F n)

pub pool_members : (terms : List ℕ) (day m : ℕ)
    → member m (maps_of_day terms day) ≡ any_below_lem (term_count terms) (λ i. contains day (days_of (term_at terms i)) && eqb m (term_at terms i).on_map)
unfolding member maps_of_day maps_in
pool_members terms day m =
    any-sort ltb (eqb m) (maps_in terms day)
    ∙ any-collect (eqb m) (λ i. only_if (contains day (days_of (term_at terms i))) (term_at terms i).on_map) (term_count terms)
    ∙ below_same (term_count terms)
  where
    one : (b : Bool) (x : ℕ) → any (eqb m) (to_list (only_if b x)) ≡ (b && eqb m x)
    one true x = or-false (eqb m x)
    one false x = refl

    below_same : (n : ℕ) → any_below_lem n (λ i. any (eqb m) (to_list (only_if (contains day (days_of (term_at terms i))) (term_at terms i).on_map))) ≡ any_below_lem n (λ i. contains day (days_of (term_at terms i)) && eqb m (term_at terms i).on_map)
    below_same n = below_ext n _ _ (λ i h. one (contains day (days_of (term_at terms i))) (term_at terms i).on_map)

-- ---- the list strictly rises

-- each number is less than those behind it
abbrev pub Rising : List ℕ → Type 0
Rising l = (j k : ℕ) → j < k → k < length l → get_or l j 0 < get_or l k 0

module _ (x : ℕ) (F : ℕ → Option ℕ) where
  few : (o : Option ℕ) → (o ≡ Some x → ⊥) → length (filter (eqb x) (to_list o)) ≡ 0
  unfolding filter
  few None h = refl
  few (Some y) h = go (eqb x y) refl
    where
      go : (b : Bool) → eqb x y ≡ b → length (cond b (y ∷ []) []) ≡ 0
      go true e = absurd (h (ap Some (sym (eqb-true x y e))))
      go false e = refl

  one : (o : Option ℕ) → length (filter (eqb x) (to_list o)) ≤ 1
  unfolding filter
  one None = omega arith
  one (Some y) = go (eqb x y)
    where
      go : (b : Bool) → length (cond b (y ∷ []) []) ≤ 1
      go true = omega arith
      go false = omega arith

  count_next : (n : ℕ) → length (filter (eqb x) (collect (suc n) F)) ≡ length (filter (eqb x) (collect n F)) + length (filter (eqb x) (to_list (F n)))
  unfolding collect
  count_next n = ap length (filter-append (eqb x) (collect n F) (to_list (F n))) ∙ length-append (filter (eqb x) (collect n F)) (filter (eqb x) (to_list (F n)))

  none_collected : (n : ℕ) → ((i : ℕ) → i < n → F i ≡ Some x → ⊥) → length (filter (eqb x) (collect n F)) ≡ 0
  unfolding collect filter
  none_collected zero h = refl
  none_collected (suc n) h = omega (arith, count_next n, none_collected n (λ i b. h i (omega arith)), few (F n) (h n (omega arith)))

  -- a number that is found at most once is collected at most once
  pub collected-once : (n : ℕ) → ((i j : ℕ) → i < j → j < n → F i ≡ Some x → F j ≡ Some x → ⊥) → length (filter (eqb x) (collect n F)) ≤ 1
  unfolding collect filter
  collected-once zero h = omega arith
  collected-once (suc n) h = go (F n) refl (collected-once n (λ i j b c. h i j b (omega arith)))
    where
      go : (o : Option ℕ) → F n ≡ o → length (filter (eqb x) (collect n F)) ≤ 1 → length (filter (eqb x) (collect (suc n) F)) ≤ 1
      go None e ih = omega (arith, count_next n, ih, ap (λ o. length (filter (eqb x) (to_list o))) e, few None (λ z. none_some z))
        where
          none_some : None ≡ Some x → ⊥
          none_some z = let w : ◌≡◌ {A = ℕ} 0 1 = cc in omega arith
      go (Some y) e ih = at (eqb x y) refl
        where
          at : (b : Bool) → eqb x y ≡ b → length (filter (eqb x) (collect (suc n) F)) ≤ 1
          at true q =
              let here : F n ≡ Some x = e ∙ ap Some (sym (eqb-true x y q)) in
              omega (arith, count_next n, none_collected n (λ i b f. h i n b (omega arith) f here), one (F n))
          at false q = omega (arith, count_next n, ih, few (F n) (λ f. eqb-false x y q (some_same (sym f ∙ e))))
            where
              some_same : {a b : ℕ} → Some a ≡ Some b → a ≡ b
              some_same z = cc

-- ---- sorted, and each number once

found_at : (x : ℕ) (l : List ℕ) (k : ℕ) → k < length l → x ≡ get_or l k 0 → 1 ≤ length (filter (eqb x) l)
unfolding filter
found_at x [] k h e = absurd (omega arith)
found_at x (y ∷ l) zero h e = rw (eq-eqb x y e) (omega arith)
found_at x (y ∷ l) (suc k) h e = go (eqb x y) (found_at x l k (omega arith) e)
  where
    go : (b : Bool) → 1 ≤ length (filter (eqb x) l) → 1 ≤ length (cond b (y ∷ filter (eqb x) l) (filter (eqb x) l))
    go true ih = omega arith
    go false ih = ih

after_at : (y : ℕ) {l : List ℕ} (k : ℕ) → After ltb number-order y l → k < length l → ltb (get_or l k 0) y ≡ false
after_at y k After.none h = absurd (omega arith)
after_at y zero (After.some e a) h = e
after_at y (suc k) (After.some e a) h = after_at y k a (omega arith)

tail-count : (x y : ℕ) (l : List ℕ) → length (filter (eqb x) l) ≤ length (filter (eqb x) (y ∷ l))
unfolding filter
tail-count x y l = go (eqb x y)
  where
    go : (b : Bool) → length (filter (eqb x) l) ≤ length (cond b (y ∷ filter (eqb x) l) (filter (eqb x) l))
    go true = omega arith
    go false = omega arith

head-count : (x : ℕ) (l : List ℕ) → length (filter (eqb x) (x ∷ l)) ≡ suc (length (filter (eqb x) l))
unfolding filter
head-count x l = rw (eq-eqb x x refl) refl

pub once-rising : {l : List ℕ} → Sorted ltb number-order l → ((x : ℕ) → length (filter (eqb x) l) ≤ 1) → Rising l
once-rising Sorted.none h j k b n = absurd (omega arith)
once-rising (Sorted.some {x = x} {l = l} a s) h zero zero b n = absurd (omega arith)
once-rising (Sorted.some {x = x} {l = l} a s) h zero (suc k) b n = strict (eqb x (get_or l k 0)) refl
  where
    strict : (t : Bool) → eqb x (get_or l k 0) ≡ t → x < get_or l k 0
    strict true e = absurd (omega (arith, h x, head-count x l, found_at x l k (omega arith) (eqb-true x (get_or l k 0) e)))
    strict false e =
        let d : (x ≡ get_or l k 0 → ⊥) = eqb-false x (get_or l k 0) e in
        omega (arith, ltb-false (get_or l k 0) x (after_at x k a (omega arith)))
once-rising (Sorted.some {x = x} {l = l} a s) h (suc j) zero b n = absurd (omega arith)
once-rising (Sorted.some {x = x} {l = l} a s) h (suc j) (suc k) b n = once-rising s (λ y. omega (arith, tail-count y x l, h y)) j k (omega arith) (omega arith)

pub kept : {A : Type 0} (b : Bool) (a c : A) → only_if b a ≡ Some c → (b ≡ true) × (a ≡ c)
kept true a c e = (refl, same e)
  where
    same : Some a ≡ Some c → a ≡ c
    same z = cc
kept false a c e = absurd (none_some e)
  where
    none_some : None ≡ Some c → ⊥
    none_some z = let w : ◌≡◌ {A = ℕ} 0 1 = cc in omega arith

-- ---- the record that is shown

pub record Newest (records : List ℕ) (m day n : ℕ) (r : Accession) : Type 0 where
  pub place : ℕ
  pub below : place < n
  pub is : accession_at records place ≡ r
  pub on_map : r.on_map ≡ m
  pub early : r.day ≤ day
  pub later : (j : ℕ) → place < j → j < n → (accession_at records j).on_map ≡ m → day < (accession_at records j).day

-- record i is of the map, and of the day or earlier
abbrev pub counts : List ℕ → ℕ → ℕ → ℕ → Bool
counts records m day i = eqb (accession_at records i).on_map m && leb (accession_at records i).day day

late : (records : List ℕ) (m day i : ℕ) → counts records m day i ≡ false → (accession_at records i).on_map ≡ m → day < (accession_at records i).day
late records m day i h e = go (leb (accession_at records i).day day) refl
  where
    go : (b : Bool) → leb (accession_at records i).day day ≡ b → day < (accession_at records i).day
    go true t = absurd (false≢true (sym h ∙ ap₂ ◌&&◌ (eq-eqb (accession_at records i).on_map m e) t))
    go false t = leb-false (accession_at records i).day day t

pub newest_is : (records : List ℕ) (m day n : ℕ) (r : Accession) → newest records m day n ≡ Some r → Newest records m day n r
unfolding newest
newest_is records m day zero r e = absurd (none_some e)
  where
    none_some : None ≡ Some r → ⊥
    none_some z = let w : ◌≡◌ {A = ℕ} 0 1 = cc in omega arith
newest_is records m day (suc i) r e = go (counts records m day i) refl e (newest_is records m day i r)
  where
    same : {a b : Accession} → Some a ≡ Some b → a ≡ b
    same z = cc

    go : (b : Bool) → counts records m day i ≡ b → cond b (Some (accession_at records i)) (newest records m day i) ≡ Some r
        → (newest records m day i ≡ Some r → Newest records m day i r) → Newest records m day (suc i) r
    go true t f ih =
        let B = both (eqb (accession_at records i).on_map m) (leb (accession_at records i).day day) t in
        record {
          place = i;
          below = omega arith;
          is = same f;
          on_map = ap (λ a. a.on_map) (sym (same f)) ∙ eqb-true (accession_at records i).on_map m B.0;
          early = subst (λ a. a.day ≤ day) (same f) (leb-true (accession_at records i).day day B.1);
          later = λ j b c q. absurd (omega arith);
        }
    go false t f ih = passed (ih f)
      where
        passed : Newest records m day i r → Newest records m day (suc i) r
        passed N =
            record {
              place = N.place;
              below = omega (arith, N.below);
              is = N.is;
              on_map = N.on_map;
              early = N.early;
              later = λ j b c q. at j b c q (ltb j i) refl;
            }
          where
            at : (j : ℕ) → N.place < j → j < suc i → (accession_at records j).on_map ≡ m → (u : Bool) → ltb j i ≡ u → day < (accession_at records j).day
            at j b c q true u = N.later j b (ltb-true j i u) q
            at j b c q false u =
                let here : j ≡ i = omega (arith, ltb-false j i u) in
                late records m day j (ap (counts records m day) here ∙ t) q

-- none is shown exactly when no record is of the map, and of the day or earlier
pub newest_none : (records : List ℕ) (m day n : ℕ) → ((i : ℕ) → i < n → counts records m day i ≡ false) → newest records m day n ≡ None
unfolding newest
newest_none records m day zero h = refl
newest_none records m day (suc i) h = rw (h i (omega arith)) (newest_none records m day i (λ j b. h j (omega arith)))

pub none_newest : (records : List ℕ) (m day n : ℕ) → newest records m day n ≡ None → (i : ℕ) → i < n → counts records m day i ≡ false
unfolding newest
none_newest records m day zero e i b = absurd (omega arith)
none_newest records m day (suc n) e i b = go (counts records m day n) refl e (λ f c. none_newest records m day n f i c)
  where
    some_none : {a : Accession} → Some a ≡ None → ⊥
    some_none z = let w : ◌≡◌ {A = ℕ} 0 1 = cc in omega arith

    go : (t : Bool) → counts records m day n ≡ t → cond t (Some (accession_at records n)) (newest records m day n) ≡ None
        → (newest records m day n ≡ None → i < n → counts records m day i ≡ false) → counts records m day i ≡ false
    go true u f ih = absurd (some_none f)
    go false u f ih = at (ltb i n) refl
      where
        at : (v : Bool) → ltb i n ≡ v → counts records m day i ≡ false
        at true v = ih f (ltb-true i n v)
        at false v =
            let here : i ≡ n = omega (arith, ltb-false i n v) in
            ap (counts records m day) here ∙ u

-- and an entry then has own number 0, which no record has
pub none_shown : (records : List ℕ) (m day n : ℕ) → ((i : ℕ) → i < n → 0 < (accession_at records i).own) → get_or (entry_of m (newest records m day n)) 1 0 ≡ 0
    → newest records m day n ≡ None
none_shown records m day n own e = go (newest records m day n) refl e
  where
    go : (o : Option Accession) → newest records m day n ≡ o → get_or (entry_of m o) 1 0 ≡ 0 → o ≡ None
    go None f z = refl
    go (Some r) f z =
        let N = newest_is records m day n r f in
        absurd (omega (arith, own N.place N.below, ap (λ a. a.own) N.is))
