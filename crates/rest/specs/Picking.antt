-- Lists by place: a list is what it has at its places; what a test leaves of a list is picked by place (`picked` of laws), and a test that leaves as many as
-- there are leaves all. Assumes nothing.
use Rattle.std.specs.Prelude.{ℕ, zero, suc, ◌+◌, ◌≤◌, ◌<◌, ◌≡◌, Bool, cond, length, get_or, ltb, Option, None, Some}
use Rattle.std.proofs.Common.{arith, add-zero, add-one, ap₂, ◌∙◌, ltb-true, ltb-false}
use Rattle.std.proofs.Math.Path.{refl, sym, ap}
use Rattle.std.proofs.Math.Bool.{true, false}
use mathlib.Core.List.{List, [], ◌∷◌, ◌++◌, map, append-nil}
use Rattle.definitions.specs.Scan.{collect, only_if, to_list, run, filter, count_below, bit}
use Rattle.definitions.specs.Refusals.{or_else, first_below_lem}
use Rattle.laws.specs.ListLaws.Lists.{All, done, more, length_run}
use Rattle.laws.specs.ListLaws.Scans.{picked, picked-length, collect_ext}
use Rattle.laws.specs.ListLaws.KeptLists.{collect-shift}
use Rattle.laws.specs.ListLaws.Members.{all-place}
use Rattle.laws.specs.ListLaws.ScansOfAll.{collect-below}
use Rattle.laws.specs.ListLaws.ScanSteps.{count-le}
use Rattle.laws.specs.ListLaws.Options.{on_only, on_list}
use Rattle.laws.specs.OrderLaws.Ranks.{rank}
use Rattle.laws.specs.RegionLaws.Merging.{run_at}

module _ {A : Type 0} where
  -- in the list, the default says nothing
  pub get_d_inside : (l : List A) (d e : A) (i : ℕ) → i < length l → get_or l i d ≡ get_or l i e
  get_d_inside [] d e i h = absurd (omega arith)
  get_d_inside (x ∷ l) d e zero h = refl
  get_d_inside (x ∷ l) d e (suc i) h = get_d_inside l d e i (omega arith)

  pub get_d_mapped : {B : Type 0} (f : A → B) (l : List A) (d : A) (e : B) (i : ℕ) → i < length l → get_or (map f l) i e ≡ f (get_or l i d)
  get_d_mapped f [] d e i h = absurd (omega arith)
  get_d_mapped f (x ∷ l) d e zero h = refl
  get_d_mapped f (x ∷ l) d e (suc i) h = get_d_mapped f l d e i (omega arith)

  -- what passes a test, by place
  pub filter-picked : {B : Type 0} (p : A → Bool) (f : A → B) (d : A) (l : List A)
      → map f (filter p l) ≡ picked (λ k. p (get_or l k d)) (λ k. f (get_or l k d)) (length l)
  unfolding filter collect
  filter-picked p f d [] = refl
  filter-picked {B} p f d (x ∷ l) =
      go (p x) (filter-picked p f d l) ∙ sym (collect-shift (length l) (λ k. only_if (p (get_or (x ∷ l) k d)) (f (get_or (x ∷ l) k d))))
    where
      go : (b : Bool) → map f (filter p l) ≡ picked (λ k. p (get_or l k d)) (λ k. f (get_or l k d)) (length l)
          → map f (cond b (x ∷ filter p l) (filter p l)) ≡ to_list (only_if b (f x)) ++ picked (λ k. p (get_or l k d)) (λ k. f (get_or l k d)) (length l)
      go true e = ap {B = List B} (λ r. f x ∷ r) e
      go false e = e

  -- a list is what it has at its places
  pub places : (l : List A) (d : A) → collect (length l) (λ k. only_if true (get_or l k d)) ≡ l
  unfolding collect
  places [] d = refl
  places (x ∷ l) d = collect-shift (length l) (λ k. only_if true (get_or (x ∷ l) k d)) ∙ ap {B = List A} (λ r. x ∷ r) (places l d)

  pub picked_all : {P : A → Type 0} (p : ℕ → Bool) {l : List A} (d : A) → All P l → All P (picked p (λ k. get_or l k d) (length l))
  picked_all {P} p {l} d a = collect-below P _ (length l) (λ i h. on_list (on_only (p i) (get_or l i d) (all-place d a i h)))

-- f and g that agree where p holds
pub picked_same : {A : Type 0} (p : ℕ → Bool) (f g : ℕ → A) (n : ℕ) → ((i : ℕ) → i < n → p i ≡ true → f i ≡ g i) → picked p f n ≡ picked p g n
picked_same {A} p f g n h = collect_ext n _ (λ i. only_if (p i) (g i)) (λ i l. go i l (p i) refl)
  where
    go : (i : ℕ) → i < n → (b : Bool) → p i ≡ b → only_if b (f i) ≡ only_if b (g i)
    go i l true e = ap {B = Option A} Some (h i l e)
    go i l false e = refl

picked-ranks : (p : ℕ → Bool) (n : ℕ) → picked p (rank p) n ≡ collect (rank p n) (λ q. Some q)
unfolding collect count_below
picked-ranks p zero = refl
picked-ranks p (suc n) = next (p n) (picked-ranks p n)
  where
    next : (b : Bool) → picked p (rank p) n ≡ collect (rank p n) (λ q. Some q)
        → picked p (rank p) n ++ to_list (only_if b (rank p n)) ≡ collect (rank p n + bit b) (λ q. Some q)
    next true ih = rw (add-one (rank p n)) (ap (λ l. l ++ (rank p n ∷ [])) ih)
    next false ih = rw (add-zero (rank p n), append-nil (picked p (rank p) n)) ih

-- the ranks of all that pass, in order, are all ranks
pub ranks-all : (p : ℕ → Bool) (n : ℕ) → map (rank p) (filter p (run 0 n)) ≡ collect (rank p n) (λ q. Some q)
ranks-all p n =
    filter-picked p (rank p) 0 (run 0 n)
    ∙ ap (λ m. picked (λ k. p (get_or (run 0 n) k 0)) (λ k. rank p (get_or (run 0 n) k 0)) m) (length_run 0 n)
    ∙ collect_ext n _ (λ k. only_if (p k) (rank p k)) (λ k h. ap (λ m. only_if (p m) (rank p m)) (run_at n k h))
    ∙ picked-ranks p n

below_from : (n s k : ℕ) → s + k ≤ n → All (λ i. i < n) (run s k)
unfolding run
below_from n s zero h = done
below_from n s (suc k) h = more {x = s} (omega arith) (below_from n (suc s) k (omega arith))

pub all_below_lem : (n : ℕ) → All (λ i. i < n) (run 0 n)
all_below_lem n = below_from n 0 n (omega arith)

-- ---- a test that passes as many as there are passes all

pub count-full : (p : ℕ → Bool) (n : ℕ) → count_below n p ≡ n → (i : ℕ) → i < n → p i ≡ true
unfolding count_below
count-full p zero e i h = absurd (omega arith)
count-full p (suc n) e i h = go (p n) refl e (ltb i n) refl (λ k. count-full p n k i)
  where
    go : (b : Bool) → p n ≡ b → count_below n p + bit b ≡ suc n → (c : Bool) → ltb i n ≡ c → (count_below n p ≡ n → i < n → p i ≡ true) → p i ≡ true
    go true q e true l ih = ih (omega arith) (ltb-true i n l)
    go true q e false l ih = ap p (omega (arith, ltb-false i n l)) ∙ q
    go false q e c l ih = absurd (omega (arith, count-le p n))

module _ {A : Type 0} (p : ℕ → Bool) (l : List A) (d : A) where
  abbrev left : List A
  left = picked p (λ k. get_or l k d) (length l)

  pub left-few : length left ≤ length l
  left-few = omega (arith, picked-length p (λ k. get_or l k d) (length l), count-le p (length l))

  pub left-all : length left ≡ length l → left ≡ l
  left-all e =
      collect_ext (length l) _ (λ k. only_if true (get_or l k d))
      (λ k h. ap (λ b. only_if b (get_or l k d)) (count-full p (length l) (sym (picked-length p (λ k. get_or l k d) (length l)) ∙ e) k h))
      ∙ places l d

-- a search that finds nothing at any number below n
pub first_none : {A : Type 0} (f : ℕ → Option A) (n : ℕ) → ((i : ℕ) → i < n → f i ≡ None) → first_below_lem n f ≡ None
unfolding first_below_lem
first_none f zero h = refl
first_none f (suc n) h = ap₂ or_else (first_none f n (λ i l. h i (omega arith))) (h n (omega arith))
