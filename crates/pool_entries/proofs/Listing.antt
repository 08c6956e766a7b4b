-- The maps of the terms that have the day, counted and put one behind the other as the loops go (`Putting`). Assumes nothing.
use Prim.Native.Nat.{ℕ, zero, suc, ◌+◌, ◌/◌, ◌≤◌, ◌<◌}
use native.Mathlib.Omega.{arith}
use native.Mathlib.Nat.{le_antisymm}
use mathlib.Core.Path.{◌≡◌, refl, sym, ap, ap₂, ◌∙◌}
use mathlib.Core.Bool.{Bool, true, false}
use Rattle.std.specs.Prelude.{Option}
use Rattle.std.specs.List.{filter}
use Rattle.std.specs.Simd.{first_chunks}
use mathlib.Core.List.{List, [], ◌∷◌, ◌++◌}
use lib.ListN.{length, get_or, set, length-append}
use lib.Seq.{sets, length-sets}
use lib.Dec.{ltb}
use borrow.Author.Tests.{ltb-true, ltb-false}
use Rattle.definitions.specs.Lists.{overwrite}
use Rattle.definitions.specs.Scan.{bit, count_below, to_list, only_if, collect}
use Rattle.laws.specs.ListLaws.ScanSteps.{count_next, collect_next}
use Rattle.laws.specs.ListLaws.Overwritten.{overwrite_more}
use Rattle.pool_terms.specs.Contract.{term_in}
use Rattle.pool_terms.proofs.Chunks.{term_in-chunk}
use Rattle.catalogue.specs.Terms.{Term, term_at, term_count, days_of, contains}
use Rattle.catalogue.specs.Pool.{maps_in}
use Rattle.pool_entries.specs.Steps.{map_at_lem}

module _ {A : Type 0} (f : ℕ → Option A) where
  length_next : (k : ℕ) → length (collect (k + 1) f) ≡ length (collect k f) + length (to_list (f k))
  length_next k = ap length (collect_next f k) ∙ length-append (collect k f) (to_list (f k))

  -- what is collected below more numbers is no shorter
  collect-grows : (n k : ℕ) → k ≤ n → length (collect k f) ≤ length (collect n f)
  unfolding collect
  collect-grows zero k h = let e : k ≡ 0 = omega arith in rw e (omega arith)
  collect-grows (suc n) k h = go (ltb k (suc n)) refl (λ m. collect-grows n k m)
    where
      go : (b : Bool) → ltb k (suc n) ≡ b → (k ≤ n → length (collect k f) ≤ length (collect n f)) → length (collect k f) ≤ length (collect n f ++ to_list (f n))
      go true e ih = omega (arith, ih (omega (arith, ltb-true k (suc n) e)), length-append (collect n f) (to_list (f n)))
      go false e ih = let z : k ≡ suc n = omega (arith, ltb-false k (suc n) e) in rw z (omega arith)

  collect-room : (n k : ℕ) → k < n → length (collect k f) + length (to_list (f k)) ≤ length (collect n f)
  collect-room n k h = omega (arith, length_next k, collect-grows n (k + 1) (omega arith))

-- ---- counting

module _ {A : Type 0} (f : ℕ → Bool) (g : ℕ → A) where
  as_many : (n : ℕ) → count_below n f ≡ length (collect n (λ i. only_if (f i) (g i)))
  unfolding count_below collect
  as_many zero = refl
  as_many (suc n) =
      let e : suc n ≡ n + 1 = omega arith in
      ap (λ m. count_below m f) e ∙ next (f n) (count_next f n) (length_next (λ i. only_if (f i) (g i)) n) (as_many n)
      ∙ ap (λ m. length (collect m (λ i. only_if (f i) (g i)))) (sym e)
    where
      next : (b : Bool) {x y x' y' : ℕ} → x' ≡ x + bit b → y' ≡ y + length (to_list (only_if b (g n))) → x ≡ y → x' ≡ y'
      next true p q r = omega arith
      next false p q r = omega arith

module _ (terms : List ℕ) (day : ℕ) {chunks : List (List ℕ)} (E : chunks ≡ first_chunks 7 (length terms / 7) terms) (many : length chunks ≡ length terms / 7) where
  abbrev has : List ℕ → Bool
  has e = contains day (days_of (term_in e))

  abbrev has_lem : ℕ → Bool
  has_lem i = contains day (days_of (term_at terms i))

  one_more : (b : Bool) (x : List ℕ) (xs : List (List ℕ)) → b ≡ has x → length (filter has (x ∷ xs)) ≡ bit b + length (filter has xs)
  one_more true x xs e = rw (sym e) (omega arith)
  one_more false x xs e = rw (sym e) (omega arith)

  counted_from : (a : ℕ) (xs : List (List ℕ)) → ((i : ℕ) → i < length xs → has (get_or xs i []) ≡ has_lem (a + i))
      → count_below a has_lem + length (filter has xs) ≡ count_below (a + length xs) has_lem
  counted_from a [] h = let same : a ≡ a + 0 = omega arith in omega (arith, ap (λ n. count_below n has_lem) same)
  counted_from a (x ∷ xs) h =
      let here : a + 0 ≡ a = omega arith in
      let more : a + 1 + length xs ≡ a + suc (length xs) = omega arith in
      let step : (i : ℕ) → a + suc i ≡ a + 1 + i = λ i. omega arith in
      let rest = counted_from (a + 1) xs (λ i b. h (suc i) (omega arith) ∙ ap has_lem (step i)) in
      let first = one_more (has_lem a) x xs (sym (h 0 (omega arith) ∙ ap has_lem here)) in
      omega (arith, rest, first, count_next has_lem a, ap (λ n. count_below n has_lem) more)

  pub all-counted : length (filter has chunks) ≡ length (maps_in terms day)
  unfolding maps_in count_below
  all-counted =
      let plain : (i : ℕ) → i ≡ 0 + i = λ i. omega arith in
      let all = counted_from 0 chunks (λ i b. ap (λ t. contains day (days_of t)) (term_in-chunk terms i E (omega (arith, b, many))) ∙ ap has_lem (plain i)) in
      let end : 0 + length chunks ≡ term_count terms = omega (arith, many) in
      omega (arith, all, ap (λ n. count_below n has_lem) end) ∙ as_many has_lem (λ i. (term_at terms i).on_map) (term_count terms)

-- ---- putting

pub record Putting (terms : List ℕ) (day : ℕ) (old new : List ℕ) (maps i : ℕ) : Type 0 where
  pub within : i ≤ term_count terms
  pub room : length (maps_in terms day) ≤ length old
  pub stored : new ≡ overwrite (collect i (map_at_lem terms day)) old
  pub counted : maps ≡ length (collect i (map_at_lem terms day))
  pub long : length new ≡ length old

module _ {terms : List ℕ} {day : ℕ} {old : List ℕ} where
  pub putting-starts : length (maps_in terms day) ≤ length old → Putting terms day old old 0 0
  unfolding collect
  putting-starts h = record { within = omega arith; room = h; stored = refl; counted = refl; long = refl }

  module _ {new : List ℕ} {maps i : ℕ} (P : Putting terms day old new maps i) (h : i < term_count terms) where
    enough : length (collect i (map_at_lem terms day)) + length (to_list (map_at_lem terms day i)) ≤ length old
    unfolding maps_in
    enough = omega (arith, P.room, collect-room (map_at_lem terms day) (term_count terms) i h)

    putting-goes_on : {next : List ℕ} {more : ℕ} → next ≡ sets new maps (to_list (map_at_lem terms day i)) → more ≡ maps + length (to_list (map_at_lem terms day i))
        → Putting terms day old next more (i + 1)
    putting-goes_on e m =
        record {
          within = omega arith;
          room = P.room;
          stored =
              e
              ∙ ap₂ (λ l k. sets l k (to_list (map_at_lem terms day i))) P.stored P.counted
              ∙ overwrite_more (collect i (map_at_lem terms day)) (to_list (map_at_lem terms day i)) old enough
              ∙ ap (λ l. overwrite l old) (sym (collect_next (map_at_lem terms day) i));
          counted = omega (arith, m, P.counted, length_next (map_at_lem terms day) i);
          long = ap length e ∙ length-sets new maps (to_list (map_at_lem terms day i)) ∙ P.long;
        }

    -- what term i, which is t, adds: its map, if it has the day
    module _ {t : Term} (same : t ≡ term_at terms i) where
      one : {b : Bool} → b ≡ contains day (days_of t) → b ≡ true → to_list (map_at_lem terms day i) ≡ t.on_map ∷ []
      one d e = ap (λ x. to_list (only_if (contains day (days_of x)) x.on_map)) (sym same) ∙ ap (λ z. to_list (only_if z t.on_map)) (sym d ∙ e)

      none_lem : {b : Bool} → b ≡ contains day (days_of t) → b ≡ false → to_list (map_at_lem terms day i) ≡ []
      none_lem d e = ap (λ x. to_list (only_if (contains day (days_of x)) x.on_map)) (sym same) ∙ ap (λ z. to_list (only_if z t.on_map)) (sym d ∙ e)

      pub putting-room : {b : Bool} → b ≡ contains day (days_of t) → b ≡ true → maps + 1 ≤ length new
      putting-room d e = omega (arith, enough, ap length (one d e), P.counted, P.long)

      pub putting-put : {b : Bool} → b ≡ contains day (days_of t) → b ≡ true → Putting terms day old (set new maps t.on_map) (maps + 1) (i + 1)
      putting-put d e = putting-goes_on (ap (sets new maps) (sym (one d e))) (omega (arith, ap length (one d e)))

      pub putting-left : {b : Bool} → b ≡ contains day (days_of t) → b ≡ false → Putting terms day old new maps (i + 1)
      putting-left d e = putting-goes_on (ap (sets new maps) (sym (none_lem d e))) (omega (arith, ap length (none_lem d e)))

  pub putting-ends : {new : List ℕ} {maps i : ℕ} → Putting terms day old new maps i → term_count terms ≤ i → new ≡ overwrite (maps_in terms day) old
  unfolding maps_in
  putting-ends P h = P.stored ∙ ap (λ n. overwrite (collect n (map_at_lem terms day)) old) (le_antisymm P.within h)

  pub putting-counts : {new : List ℕ} {maps i : ℕ} → Putting terms day old new maps i → term_count terms ≤ i → maps ≡ length (maps_in terms day)
  unfolding maps_in
  putting-counts P h = P.counted ∙ ap (λ n. length (collect n (map_at_lem terms day))) (le_antisymm P.within h)
