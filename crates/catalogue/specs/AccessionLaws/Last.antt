-- The last of the numbers below n that pass a test, as one more than it, or 0 where none does: what a walk from the back finds. Assumes nothing.
use Prim.Native.Nat.{ℕ, zero, suc, ◌-◌, ◌≤◌, ◌<◌}
use native.Mathlib.Omega.{arith}
use Rattle.std.specs.Prelude.{◌≡◌, Bool}
use Rattle.std.proofs.Math.Path.{refl, sym, ap}
use Rattle.std.proofs.Common.{◌∙◌, true≢false}
use Rattle.std.proofs.Math.Bool.{true, false, cond}
use Rattle.std.proofs.Math.Dec.{ltb}
use borrow.Author.Tests.{ltb-true, ltb-false}

unfoldable pub last_below : ℕ → (ℕ → Bool) → ℕ
last_below zero f = 0
last_below (suc n) f = cond (f n) (suc n) (last_below n f)

module _ (f : ℕ → Bool) where
  pub last_here : (n : ℕ) → f n ≡ true → last_below (suc n) f ≡ suc n
  unfolding last_below
  last_here n h = rw h refl

  pub last_not : (n : ℕ) → f n ≡ false → last_below (suc n) f ≡ last_below n f
  unfolding last_below
  last_not n h = rw h refl

  -- the same for a walk that stands at n, which is above 0
  pub last_found : (n : ℕ) → 0 < n → f (n - 1) ≡ true → last_below n f ≡ n
  last_found zero l h = absurd (omega arith)
  last_found (suc n) l h =
      let e : suc n - 1 ≡ n = omega arith in
      last_here n (rw e at h)

  pub last_back : (n : ℕ) → 0 < n → f (n - 1) ≡ false → last_below n f ≡ last_below (n - 1) f
  last_back zero l h = absurd (omega arith)
  last_back (suc n) l h =
      let e : suc n - 1 ≡ n = omega arith in
      rw e (last_not n (rw e at h))

  pub last_within : (n : ℕ) → last_below n f ≤ n
  unfolding last_below
  last_within zero = omega arith
  last_within (suc n) = go (f n) (last_within n)
    where
      go : (b : Bool) → last_below n f ≤ n → cond b (suc n) (last_below n f) ≤ suc n
      go true h = omega arith
      go false h = omega arith

  -- it passes
  pub last_passes : (n k : ℕ) → last_below n f ≡ suc k → f k ≡ true
  unfolding last_below
  last_passes zero k h = absurd (omega arith)
  last_passes (suc n) k h = go (f n) refl h (last_passes n k)
    where
      go : (b : Bool) → f n ≡ b → cond b (suc n) (last_below n f) ≡ suc k → (last_below n f ≡ suc k → f k ≡ true) → f k ≡ true
      go true e h ih =
          let s : n ≡ k = omega arith in
          sym (ap f s) ∙ e
      go false e h ih = ih h

  -- none behind it does
  pub none_behind : (n k : ℕ) → last_below n f ≤ k → k < n → f k ≡ false
  unfolding last_below
  none_behind zero k h m = absurd (omega arith)
  none_behind (suc n) k h m = go (f n) refl h (ltb k n) refl (none_behind n k)
    where
      go : (b : Bool) → f n ≡ b → cond b (suc n) (last_below n f) ≤ k → (t : Bool) → ltb k n ≡ t → (last_below n f ≤ k → k < n → f k ≡ false) → f k ≡ false
      go true e h t q ih = absurd (omega arith)
      go false e h true q ih = ih h (ltb-true k n q)
      go false e h false q ih =
          let s : k ≡ n = omega (arith, ltb-false k n q) in
          ap f s ∙ e

-- what fails the test g fails f: the walk may go from one that passes g to the one before it
pub last_skip : (f g : ℕ → Bool) → ((j : ℕ) → f j ≡ true → g j ≡ true) → (n : ℕ) → last_below n f ≡ last_below (last_below n g) f
unfolding last_below
last_skip f g h zero = refl
last_skip f g h (suc n) = go (f n) refl (g n) refl (last_skip f g h n)
  where
    go : (a : Bool) → f n ≡ a → (b : Bool) → g n ≡ b → last_below n f ≡ last_below (last_below n g) f
        → cond a (suc n) (last_below n f) ≡ last_below (cond b (suc n) (last_below n g)) f
    go a e true d ih = sym (ap (λ c. cond c (suc n) (last_below n f)) e)
    go true e false d ih = absurd (true≢false (sym (h n e) ∙ d))
    go false e false d ih = ih
