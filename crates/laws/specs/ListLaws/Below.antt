-- Scans over the numbers below n, number by number: what is found somewhere has a first place, what all pass each passes, tests that agree below n have equal scans, every rank below
-- the count is taken by a number inside, and what is gathered is what is gathered at each number. Assumes nothing.
use Prim.Native.Nat.{ℕ, zero, suc, ◌+◌, ◌≤◌, ◌<◌}
use native.Mathlib.Omega.{arith}
use Rattle.std.specs.Prelude.{◌≡◌, Bool, ◌||◌, List}
use Rattle.std.proofs.Math.Path.{refl}
use Rattle.std.proofs.Common.{sym, ap, ap₂, ◌∙◌, ltb-true, ltb-false}
use Rattle.std.proofs.Math.Bool.{true, false, or-true}
use Rattle.std.proofs.lemmas.Bool.{false≢true}
use Rattle.std.proofs.Math.Dec.{ltb}
use Rattle.definitions.specs.Scan.{any_below_lem, all_below, count_below, gather, bit}
use Rattle.laws.specs.ListLaws.Tests.{both}
use Rattle.laws.specs.ListLaws.Lists.{All, done, all_append, all_split}
use Rattle.laws.specs.OrderLaws.Ranks.{rank}

pub below_at : (n : ℕ) (f : ℕ → Bool) (c : ℕ) → c < n → f c ≡ true → any_below_lem n f ≡ true
unfolding any_below_lem
below_at zero f c h k = absurd (omega arith)
below_at (suc n) f c h k = go (ltb c n) refl (λ l. below_at n f c l k)
  where
    go : (b : Bool) → ltb c n ≡ b → (c < n → any_below_lem n f ≡ true) → (any_below_lem n f || f n) ≡ true
    go true e ih = rw (ih (ltb-true c n e)) refl
    go false e ih = ap (λ b. any_below_lem n f || b) (sym (ap f (omega (arith, ltb-false c n e))) ∙ k) ∙ or-true (any_below_lem n f)

pub below_none : (n : ℕ) (f : ℕ → Bool) → ((c : ℕ) → c < n → f c ≡ false) → any_below_lem n f ≡ false
unfolding any_below_lem
below_none zero f h = refl
below_none (suc n) f h = ap₂ ◌||◌ (below_none n f (λ c l. h c (omega arith))) (h n (omega arith))

pub below_ext : (n : ℕ) (f g : ℕ → Bool) → ((c : ℕ) → c < n → f c ≡ g c) → any_below_lem n f ≡ any_below_lem n g
unfolding any_below_lem
below_ext zero f g h = refl
below_ext (suc n) f g h = ap₂ ◌||◌ (below_ext n f g (λ c l. h c (omega arith))) (h n (omega arith))

pub count_ext : (n : ℕ) (f g : ℕ → Bool) → ((c : ℕ) → c < n → f c ≡ g c) → count_below n f ≡ count_below n g
unfolding count_below
count_ext zero f g h = refl
count_ext (suc n) f g h = ap₂ (λ m b. m + bit b) (count_ext n f g (λ c l. h c (omega arith))) (h n (omega arith))

-- a test that all pass is passed at each place
pub all_below_at : (n : ℕ) (f : ℕ → Bool) → all_below n f ≡ true → (c : ℕ) → c < n → f c ≡ true
unfolding all_below
all_below_at zero f h c l = absurd (omega arith)
all_below_at (suc n) f h c l = go (ltb c n) refl (all_below_at n f (both (all_below n f) (f n) h).0 c)
  where
    go : (b : Bool) → ltb c n ≡ b → (c < n → f c ≡ true) → f c ≡ true
    go true e ih = ih (ltb-true c n e)
    go false e ih = ap f (omega (arith, ltb-false c n e)) ∙ (both (all_below n f) (f n) h).1

-- the first place where f holds
pub record First (f : ℕ → Bool) (n : ℕ) : Type 0 where
  pub place : ℕ
  pub below : place < n
  pub found : f place ≡ true
  pub none : any_below_lem place f ≡ false

pub below_first : (f : ℕ → Bool) (n : ℕ) → any_below_lem n f ≡ true → First f n
unfolding any_below_lem
below_first f zero h = absurd (false≢true h)
below_first f (suc n) h = go (any_below_lem n f) refl h (below_first f n)
  where
    go : (b : Bool) → any_below_lem n f ≡ b → (b || f n) ≡ true → (any_below_lem n f ≡ true → First f n) → First f (suc n)
    go true e k ih =
        let r = ih e in
        record { place = r.place; below = omega (arith, r.below); found = r.found; none = r.none }
    go false e k ih = record { place = n; below = omega arith; found = k; none = e }

-- the number inside that has rank k
pub record Ranked (inside : ℕ → Bool) (n k : ℕ) : Type 0 where
  pub place : ℕ
  pub below : place < n
  pub is_inside : inside place ≡ true
  pub rank_is : rank inside place ≡ k

pub rank-taken : (inside : ℕ → Bool) (n k : ℕ) → k < rank inside n → Ranked inside n k
unfolding count_below
rank-taken inside zero k h = absurd (omega arith)
rank-taken inside (suc n) k h = go (ltb k (rank inside n)) refl (inside n) refl (rank-taken inside n k)
  where
    wider : Ranked inside n k → Ranked inside (suc n) k
    wider r = record { place = r.place; below = omega (arith, r.below); is_inside = r.is_inside; rank_is = r.rank_is }

    go : (b : Bool) → ltb k (rank inside n) ≡ b → (c : Bool) → inside n ≡ c → (k < rank inside n → Ranked inside n k) → Ranked inside (suc n) k
    go true e c i ih = wider (ih (ltb-true k (rank inside n) e))
    go false e true i ih = record { place = n; below = omega arith; is_inside = i; rank_is = omega (arith, ltb-false k (rank inside n) e, rw i at h) }
    go false e false i ih = absurd (omega (arith, ltb-false k (rank inside n) e, rw i at h))

-- ---- what holds of all that is gathered holds of what is gathered at each number, and the other way round

module _ {A : Type 0} {P : A → Type 0} (f : ℕ → List A) where
  pub gather-below : (n : ℕ) → ((i : ℕ) → i < n → All P (f i)) → All P (gather n f)
  unfolding gather
  gather-below zero h = done
  gather-below (suc n) h = all_append (gather-below n (λ i l. h i (omega arith))) (h n (omega arith))

  pub gather_at : (n : ℕ) → All P (gather n f) → (i : ℕ) → i < n → All P (f i)
  unfolding gather
  gather_at zero a i l = absurd (omega arith)
  gather_at (suc n) a i l = go (all_split (gather n f) a) (ltb i n) refl (λ b. gather_at n b i)
    where
      go : All P (gather n f) × All P (f n) → (b : Bool) → ltb i n ≡ b → (All P (gather n f) → i < n → All P (f i)) → All P (f i)
      go s true e ih = ih s.0 (ltb-true i n e)
      go s false e ih = rw (last (ltb-false i n e)) s.1
        where
          last : n ≤ i → i ≡ n
          last h = omega arith
