-- The numbers below n that lie inside are counted through: the rank of one is how many inside lie below it.
-- A scan that finds nothing outside is the scan over the ranks. Assumes nothing.
use Prim.Native.Nat.{ℕ, zero, suc, ◌+◌, ◌-◌, ◌≤◌, ◌<◌}
use native.Mathlib.Omega.{arith}
use native.Mathlib.Nat.{add-zero}
use Rattle.std.proofs.Math.Numerals.{add-one}
use Rattle.std.specs.Prelude.{◌≡◌, Bool, ◌&&◌, ◌||◌, eqb, ltb, Option}
use Rattle.std.proofs.Math.Path.{refl}
use Rattle.std.proofs.Common.{sym, ap, ltb-true, ltb-false, eqb-true, lt-ltb, le-ltb, eq-eqb, ne_eqb}
use Rattle.std.proofs.Math.Bool.{true, false, or-false, and-true}
use mathlib.Core.List.{List, [], ◌++◌, map, append-nil}
use Rattle.std.proofs.lemmas.Bool.{eqb-false}
use Rattle.definitions.specs.Scan.{any_below_lem, all_below, count_below, collect, gather, to_list, bit, filter}
use Rattle.laws.specs.ListLaws.Lists.{filter-append, map-append, All, done, all_append}

module _ (inside : ℕ → Bool) where
  abbrev pub rank : ℕ → ℕ
  rank i = count_below i inside

  rank_in_lem : (i : ℕ) → inside i ≡ true → rank (suc i) ≡ suc (rank i)
  unfolding count_below
  rank_in_lem i h = rw h (add-one (count_below i inside))

  rank-out : (i : ℕ) → inside i ≡ false → rank (suc i) ≡ rank i
  unfolding count_below
  rank-out i h = rw h (add-zero (count_below i inside))

  rank-suc-le : (i : ℕ) → rank i ≤ rank (suc i)
  unfolding count_below
  rank-suc-le i = omega arith

  pub rank-le : (i k : ℕ) → rank i ≤ rank (k + i)
  rank-le i zero = rw (native.Mathlib.Nat.zero-add) (omega arith)
  rank-le i (suc k) = rw (native.Mathlib.Nat.suc-add) (omega (arith, rank-le i k, rank-suc-le (k + i)))

  pub rank_lt : (i j : ℕ) → inside i ≡ true → i < j → rank i < rank j
  rank_lt i j h l = omega (arith, rank_in_lem i h, go)
    where
      at : j - suc i + suc i ≡ j
      at = omega arith

      go : rank (suc i) ≤ rank j
      go = rw at at (rank-le (suc i) (j - suc i))

  pub rank_mono : (i j : ℕ) → i ≤ j → rank i ≤ rank j
  rank_mono i j l = rw at at (rank-le i (j - i))
    where
      at : j - i + i ≡ j
      at = omega arith

  -- the order and the equality of what is inside are those of the ranks
  pub rank-ltb : (i j : ℕ) → inside i ≡ true → ltb i j ≡ ltb (rank i) (rank j)
  rank-ltb i j h = go (ltb i j) refl
    where
      go : (b : Bool) → ltb i j ≡ b → b ≡ ltb (rank i) (rank j)
      go true e = sym (lt-ltb _ _ (rank_lt i j h (ltb-true i j e)))
      go false e = sym (le-ltb _ _ (rank_mono j i (ltb-false i j e)))

  pub rank-eqb : (i j : ℕ) → inside i ≡ true → inside j ≡ true → eqb i j ≡ eqb (rank i) (rank j)
  rank-eqb i j h k = go (eqb i j) refl
    where
      lt_case : ltb i j ≡ true → rank i ≡ rank j → ⊥
      lt_case e q = omega (arith, rank_lt i j h (ltb-true i j e))

      gt_case : (b : Bool) → ltb j i ≡ b → ltb i j ≡ false → (i ≡ j → ⊥) → rank i ≡ rank j → ⊥
      gt_case true e f n q = omega (arith, rank_lt j i k (ltb-true j i e))
      gt_case false e f n q = n (omega (arith, ltb-false j i e, ltb-false i j f))

      differ : (b : Bool) → ltb i j ≡ b → (i ≡ j → ⊥) → rank i ≡ rank j → ⊥
      differ true e n q = lt_case e q
      differ false e n q = gt_case (ltb j i) refl e n q

      go : (b : Bool) → eqb i j ≡ b → b ≡ eqb (rank i) (rank j)
      go true e = sym (eq-eqb _ _ (ap rank (eqb-true i j e)))
      go false e = sym (ne_eqb _ _ (differ (ltb i j) refl (eqb-false i j e)))

  -- ---- the scans

  module _ (f g : ℕ → Bool) where
    pub any-rank : (n : ℕ) → ((i : ℕ) → i < n → inside i ≡ true → f i ≡ g (rank i)) → ((i : ℕ) → i < n → inside i ≡ false → f i ≡ false) → any_below_lem n f ≡ any_below_lem (rank n) g
    unfolding any_below_lem count_below
    any-rank zero s o = refl
    any-rank (suc n) s o = go (inside n) refl (any-rank n (λ i l. s i (omega arith)) (λ i l. o i (omega arith)))
      where
        go : (b : Bool) → inside n ≡ b → any_below_lem n f ≡ any_below_lem (rank n) g → (any_below_lem n f || f n) ≡ any_below_lem (rank n + bit (inside n)) g
        go true e ih = rw (e, add-one (rank n), ih, s n (omega arith) e) refl
        go false e ih = rw (e, add-zero (rank n), ih, o n (omega arith) e) (or-false _)

    pub all-rank : (n : ℕ) → ((i : ℕ) → i < n → inside i ≡ true → f i ≡ g (rank i)) → ((i : ℕ) → i < n → inside i ≡ false → f i ≡ true) → all_below n f ≡ all_below (rank n) g
    unfolding all_below count_below
    all-rank zero s o = refl
    all-rank (suc n) s o = go (inside n) refl (all-rank n (λ i l. s i (omega arith)) (λ i l. o i (omega arith)))
      where
        go : (b : Bool) → inside n ≡ b → all_below n f ≡ all_below (rank n) g → (all_below n f && f n) ≡ all_below (rank n + bit (inside n)) g
        go true e ih = rw (e, add-one (rank n), ih, s n (omega arith) e) refl
        go false e ih = rw (e, add-zero (rank n), ih, o n (omega arith) e) (and-true _)

    pub count-rank : (n : ℕ) → ((i : ℕ) → i < n → inside i ≡ true → f i ≡ g (rank i)) → ((i : ℕ) → i < n → inside i ≡ false → f i ≡ false) → count_below n f ≡ count_below (rank n) g
    unfolding count_below
    count-rank zero s o = refl
    count-rank (suc n) s o = go (inside n) refl (count-rank n (λ i l. s i (omega arith)) (λ i l. o i (omega arith)))
      where
        go : (b : Bool) → inside n ≡ b → count_below n f ≡ count_below (rank n) g → count_below n f + bit (f n) ≡ count_below (rank n + bit (inside n)) g
        go true e ih = rw (e, add-one (rank n), ih, s n (omega arith) e) refl
        go false e ih = rw (e, add-zero (rank n), ih, o n (omega arith) e) (add-zero _)

  -- what is collected, seen through a filter p and a renaming e, is what is collected over the ranks
  module _ {A B : Type 0} (p : A → Bool) (e : A → B) (f : ℕ → Option A) (g : ℕ → Option B) where
    pub collect-rank : (n : ℕ) → ((i : ℕ) → i < n → inside i ≡ true → map e (filter p (to_list (f i))) ≡ to_list (g (rank i))) → ((i : ℕ) → i < n → inside i ≡ false → filter p (to_list (f i)) ≡ []) → map e (filter p (collect n f)) ≡ collect (rank n) g
    unfolding collect count_below filter
    collect-rank zero s o = refl
    collect-rank (suc n) s o = rw (filter-append p, map-append e) (go (inside n) refl (collect-rank n (λ i l. s i (omega arith)) (λ i l. o i (omega arith))))
      where
        go : (b : Bool) → inside n ≡ b → map e (filter p (collect n f)) ≡ collect (rank n) g → map e (filter p (collect n f)) ++ map e (filter p (to_list (f n))) ≡ collect (rank n + bit (inside n)) g
        go true h ih = rw (h, add-one (rank n), ih, s n (omega arith) h) refl
        go false h ih = rw (h, add-zero (rank n), ih, o n (omega arith) h) (append-nil _)

  -- the same with no filter
  module _ {A B : Type 0} (e : A → B) (f : ℕ → Option A) (g : ℕ → Option B) where
    pub collect-map : (n : ℕ) → ((i : ℕ) → i < n → inside i ≡ true → map e (to_list (f i)) ≡ to_list (g (rank i))) → ((i : ℕ) → i < n → inside i ≡ false → to_list (f i) ≡ []) → map e (collect n f) ≡ collect (rank n) g
    unfolding collect count_below
    collect-map zero s o = refl
    collect-map (suc n) s o = rw (map-append e) (go (inside n) refl (collect-map n (λ i l. s i (omega arith)) (λ i l. o i (omega arith))))
      where
        go : (b : Bool) → inside n ≡ b → map e (collect n f) ≡ collect (rank n) g → map e (collect n f) ++ map e (to_list (f n)) ≡ collect (rank n + bit (inside n)) g
        go true h ih = rw (h, add-one (rank n), ih, s n (omega arith) h) refl
        go false h ih = rw (h, add-zero (rank n), ih, o n (omega arith) h) (append-nil _)

pub collect-all : {A : Type 0} (P : A → Type 0) (f : ℕ → Option A) (n : ℕ) → ((i : ℕ) → All P (to_list (f i))) → All P (collect n f)
unfolding collect
collect-all P f zero h = done
collect-all P f (suc n) h = all_append (collect-all P f n h) (h n)

-- counted from the second number on
pub rank-shift : (inside : ℕ → Bool) (n : ℕ) → inside 0 ≡ false → rank inside (suc n) ≡ rank (λ k. inside (suc k)) n
unfolding count_below
rank-shift inside zero h = rw h refl
rank-shift inside (suc n) h = ap (λ m. m + bit (inside (suc n))) (rank-shift inside n h)

module _ (inside : ℕ → Bool) {A B : Type 0} (p : A → Bool) (e : A → B) (f : ℕ → List A) (g : ℕ → List B) where
  pub gather-rank : (n : ℕ) → ((i : ℕ) → i < n → inside i ≡ true → map e (filter p (f i)) ≡ g (rank inside i)) → ((i : ℕ) → i < n → inside i ≡ false → filter p (f i) ≡ []) → map e (filter p (gather n f)) ≡ gather (rank inside n) g
  unfolding gather count_below filter
  gather-rank zero s o = refl
  gather-rank (suc n) s o = rw (filter-append p, map-append e) (go (inside n) refl (gather-rank n (λ i l. s i (omega arith)) (λ i l. o i (omega arith))))
    where
      go : (b : Bool) → inside n ≡ b → map e (filter p (gather n f)) ≡ gather (rank inside n) g → map e (filter p (gather n f)) ++ map e (filter p (f n)) ≡ gather (rank inside n + bit (inside n)) g
      go true h ih = rw (h, add-one (rank inside n), ih, s n (omega arith) h) refl
      go false h ih = rw (h, add-zero (rank inside n), ih, o n (omega arith) h) (append-nil _)

pub gather-all : {A : Type 0} (P : A → Type 0) (f : ℕ → List A) (n : ℕ) → ((i : ℕ) → All P (f i)) → All P (gather n f)
unfolding gather
gather-all P f zero h = done
gather-all P f (suc n) h = all_append (gather-all P f n h) (h n)

module _ (inside : ℕ → Bool) {A B : Type 0} (e : A → B) (f : ℕ → List A) (g : ℕ → List B) where
  pub gather-map : (n : ℕ) → ((i : ℕ) → i < n → inside i ≡ true → map e (f i) ≡ g (rank inside i)) → ((i : ℕ) → i < n → inside i ≡ false → f i ≡ []) → map e (gather n f) ≡ gather (rank inside n) g
  unfolding gather count_below
  gather-map zero s o = refl
  gather-map (suc n) s o = rw (map-append e) (go (inside n) refl (gather-map n (λ i l. s i (omega arith)) (λ i l. o i (omega arith))))
    where
      go : (b : Bool) → inside n ≡ b → map e (gather n f) ≡ gather (rank inside n) g → map e (gather n f) ++ map e (f n) ≡ gather (rank inside n + bit (inside n)) g
      go true h ih = rw (h, add-one (rank inside n), ih, s n (omega arith) h) refl
      go false h ih = rw (h, add-zero (rank inside n), ih, o n (omega arith) h) (append-nil _)
