-- Scans below n as a loop goes: what stands below k + 1, from what stands below k and what is found at k; and a count of few among many. Assumes nothing.
use Prim.Native.Nat.{ℕ, zero, suc, ◌+◌, ◌≤◌, ◌<◌}
use Rattle.std.proofs.Common.{add-one, add-zero, ap₂, ◌∙◌, true≢false}
use native.Mathlib.Omega.{arith}
use Rattle.std.specs.Prelude.{◌≡◌, Bool, ◌&&◌, ◌||◌, ◌++◌, eqb, Option}
use Rattle.std.proofs.Math.Path.{refl, sym, ap}
use Rattle.std.proofs.Math.Bool.{true, false, and-false}
use Rattle.std.proofs.Math.Dec.{ltb}
use borrow.Author.Tests.{ltb-true, ltb-false, eqb-true, eq-eqb}
use Rattle.definitions.specs.Scan.{any_below_lem, all_below, count_below, collect, to_list, bit}
use Rattle.laws.specs.ListLaws.Below.{below_at, below_none}
use Rattle.laws.specs.ListLaws.Disjunction.{or_middle}

-- ---- one number more

pub any_next : (f : ℕ → Bool) (k : ℕ) → any_below_lem (k + 1) f ≡ (any_below_lem k f || f k)
unfolding any_below_lem
any_next f k = rw add-one refl

pub all_next : (f : ℕ → Bool) (k : ℕ) → all_below (k + 1) f ≡ (all_below k f && f k)
unfolding all_below
all_next f k = rw add-one refl

pub count_next : (f : ℕ → Bool) (k : ℕ) → count_below (k + 1) f ≡ count_below k f + bit (f k)
unfolding count_below
count_next f k = rw add-one refl

pub collect_next : {A : Type 0} (f : ℕ → Option A) (k : ℕ) → collect (k + 1) f ≡ collect k f ++ to_list (f k)
unfolding collect
collect_next f k = rw add-one refl

-- ---- by what is found at k

pub all_more : (f : ℕ → Bool) (k : ℕ) → all_below k f ≡ true → f k ≡ true → all_below (k + 1) f ≡ true
all_more f k h e = all_next f k ∙ ap₂ ◌&&◌ h e

pub count_in : (f : ℕ → Bool) (k : ℕ) → f k ≡ true → count_below (k + 1) f ≡ count_below k f + 1
count_in f k e = count_next f k ∙ ap (λ b. count_below k f + bit b) e

pub count-out : (f : ℕ → Bool) (k : ℕ) → f k ≡ false → count_below (k + 1) f ≡ count_below k f
count-out f k e = count_next f k ∙ ap (λ b. count_below k f + bit b) e ∙ add-zero (count_below k f)

-- one that fails
pub all-fails : (f : ℕ → Bool) (n k : ℕ) → k < n → f k ≡ false → all_below n f ≡ false
unfolding all_below
all-fails f zero k h e = absurd (omega arith)
all-fails f (suc n) k h e = go (ltb k n) refl (all-fails f n k)
  where
    last : (b : Bool) → (b && false) ≡ false
    last true = refl
    last false = refl

    go : (b : Bool) → ltb k n ≡ b → (k < n → f k ≡ false → all_below n f ≡ false) → (all_below n f && f n) ≡ false
    go true t ih = ap (λ b. b && f n) (ih (ltb-true k n t) e)
    go false t ih = ap (λ b. all_below n f && b) (sym (ap f (omega (arith, ltb-false k n t))) ∙ e) ∙ last (all_below n f)

-- ---- few among many

pub count-le : (f : ℕ → Bool) (n : ℕ) → count_below n f ≤ n
unfolding count_below
count-le f zero = omega arith
count-le f (suc n) = go (f n) (count-le f n)
  where
    go : (b : Bool) → count_below n f ≤ n → count_below n f + bit b ≤ suc n
    go true h = omega arith
    go false h = omega arith

module _ (f g : ℕ → Bool) where
  pub count_mono : (n : ℕ) → ((j : ℕ) → j < n → f j ≡ true → g j ≡ true) → count_below n f ≤ count_below n g
  unfolding count_below
  count_mono zero h = omega arith
  count_mono (suc n) h = go (f n) refl (g n) refl (count_mono n (λ j l. h j (omega arith)))
    where
      go : (a : Bool) → f n ≡ a → (b : Bool) → g n ≡ b → count_below n f ≤ count_below n g → count_below n f + bit a ≤ count_below n g + bit b
      go true e true d ih = omega arith
      go true e false d ih = absurd (true≢false (sym (h n (omega arith) e) ∙ d))
      go false e true d ih = omega arith
      go false e false d ih = omega arith

  -- as many pass f as pass g, and what passes f passes g: they agree
  pub count_same : (n : ℕ) → ((j : ℕ) → j < n → f j ≡ true → g j ≡ true) → count_below n f ≡ count_below n g → (j : ℕ) → j < n → g j ≡ f j
  unfolding count_below
  count_same zero h e j l = absurd (omega arith)
  count_same (suc n) h e j l = go (f n) refl (g n) refl e (count_mono n (λ k m. h k (omega arith))) (count_same n (λ k m. h k (omega arith)))
    where
      at : (a : Bool) → f n ≡ a → g n ≡ a → ((k : ℕ) → k < n → g k ≡ f k) → (b : Bool) → ltb j n ≡ b → g j ≡ f j
      at a p q ih true t = ih j (ltb-true j n t)
      at a p q ih false t =
          let here : j ≡ n = omega (arith, ltb-false j n t) in
          ap g here ∙ q ∙ sym p ∙ ap f (sym here)

      go : (a : Bool) → f n ≡ a → (b : Bool) → g n ≡ b → count_below n f + bit a ≡ count_below n g + bit b → count_below n f ≤ count_below n g → (count_below n f ≡ count_below n g → (k : ℕ) → k < n → g k ≡ f k) → g j ≡ f j
      go true p true q s m ih = at true p q (ih (omega arith)) (ltb j n) refl
      go true p false q s m ih = absurd (true≢false (sym (h n (omega arith) p) ∙ q))
      go false p true q s m ih = absurd (omega arith)
      go false p false q s m ih = at false p q (ih (omega arith)) (ltb j n) refl

-- ---- what all pass

pub all_intro : (f : ℕ → Bool) (n : ℕ) → ((j : ℕ) → j < n → f j ≡ true) → all_below n f ≡ true
unfolding all_below
all_intro f zero h = refl
all_intro f (suc n) h = ap₂ ◌&&◌ (all_intro f n (λ j l. h j (omega arith))) (h n (omega arith))

-- what nothing passes fails everywhere
pub any-fails_at : (f : ℕ → Bool) (n : ℕ) → any_below_lem n f ≡ false → (j : ℕ) → j < n → f j ≡ false
any-fails_at f n h j l = go (f j) refl
  where
    go : (b : Bool) → f j ≡ b → b ≡ false
    go true e = absurd (true≢false (sym (below_at n f j l e) ∙ h))
    go false e = refl

-- ---- alternatives, and one place

pub any-either : (f g : ℕ → Bool) (n : ℕ) → any_below_lem n (λ j. f j || g j) ≡ (any_below_lem n f || any_below_lem n g)
unfolding any_below_lem
any-either f g zero = refl
any-either f g (suc n) = ap (λ b. b || (f n || g n)) (any-either f g n) ∙ or_middle (any_below_lem n f) (any_below_lem n g) (f n) (g n)

pub any_one : (f : ℕ → Bool) (n a : ℕ) → a < n → any_below_lem n (λ j. f j && eqb j a) ≡ f a
any_one f n a l = go (f a) refl
  where
    at : (j : ℕ) → f a ≡ false → (b : Bool) → eqb j a ≡ b → (f j && b) ≡ false
    at j h true e = ap (λ x. x && true) (ap f (eqb-true j a e) ∙ h)
    at j h false e = and-false (f j)

    go : (b : Bool) → f a ≡ b → any_below_lem n (λ j. f j && eqb j a) ≡ b
    go true e = below_at n (λ j. f j && eqb j a) a l (ap₂ ◌&&◌ e (eq-eqb a a refl))
    go false e = below_none n (λ j. f j && eqb j a) (λ j h. at j e (eqb j a) refl)
