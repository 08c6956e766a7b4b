-- A search in ascending order (`first_below_lem` of the refusals), as a loop goes. Its invariant is that nothing is found below k: that holds at 0, and at k + 1 if nothing is found at k.
-- What is found at k is then what any search beyond k finds, and at the end nothing is found at all. Assumes nothing.
use Prim.Native.Nat.{ℕ, zero, suc, ◌+◌, ◌≤◌, ◌<◌}
use Rattle.std.proofs.Common.{add-one, le_antisymm, arith, sym, ap, ◌∙◌, ltb-true, ltb-false}
use Rattle.std.specs.Prelude.{◌≡◌, Bool, true, false, not, ltb, Option, None, Some}
use Rattle.std.proofs.Math.Path.{refl}
use Rattle.definitions.specs.Scan.{only_if}
use Rattle.definitions.specs.Refusals.{or_else, first_below_lem, first_faulty}

module _ {A : Type 0} (f : ℕ → Option A) where
  pub none_below-zero : first_below_lem 0 f ≡ None
  unfolding first_below_lem
  none_below-zero = refl

  pub none_below_more : (k : ℕ) → first_below_lem k f ≡ None → f k ≡ None → first_below_lem (k + 1) f ≡ None
  unfolding first_below_lem
  none_below_more k h e = rw (add-one, h) e

  pub none_below-end : (n k : ℕ) → k ≤ n → n ≤ k → first_below_lem k f ≡ None → first_below_lem n f ≡ None
  none_below-end n k l m h = ap (λ j. first_below_lem j f) (le_antisymm m l) ∙ h

  pub first_found : (n k : ℕ) (a : A) → k < n → first_below_lem k f ≡ None → f k ≡ Some a → first_below_lem n f ≡ Some a
  unfolding first_below_lem
  first_found zero k a l h e = absurd (omega arith)
  first_found (suc n) k a l h e = go (ltb k n) refl (λ m. first_found n k a m h e)
    where
      here : n ≡ k → or_else (first_below_lem n f) (f n) ≡ Some a
      here q = rw (q, h) e

      go : (b : Bool) → ltb k n ≡ b → (k < n → first_below_lem n f ≡ Some a) → or_else (first_below_lem n f) (f n) ≡ Some a
      go true t ih = ap (λ o. or_else o (f n)) (ih (ltb-true k n t))
      go false t ih = here (omega (arith, ltb-false k n t))

-- The same of the first place that fails a test, for a loop that leaves where `!fits(..)` holds: r is what `fits(..)` returned at k.
module _ (fits : ℕ → Bool) where
  abbrev fault_at : ℕ → Option ℕ
  fault_at i = only_if (not (fits i)) i

  tested : (k : ℕ) {r t : Bool} → r ≡ fits k → not r ≡ t → fault_at k ≡ only_if t k
  tested k e l = ap (λ b. only_if b k) (sym (ap not e) ∙ l)

  pub none_faulty_zero : first_faulty 0 fits ≡ None
  none_faulty_zero = none_below-zero fault_at

  pub none_faulty_more : (k : ℕ) {r : Bool} → first_faulty k fits ≡ None → r ≡ fits k → not r ≡ false → first_faulty (k + 1) fits ≡ None
  none_faulty_more k h e l = none_below_more fault_at k h (tested k e l)

  pub none_faulty_end : (n k : ℕ) → k ≤ n → n ≤ k → first_faulty k fits ≡ None → first_faulty n fits ≡ None
  none_faulty_end = none_below-end fault_at

  pub first_faulty_lem : (n k : ℕ) {r : Bool} → k < n → first_faulty k fits ≡ None → r ≡ fits k → not r ≡ true → first_faulty n fits ≡ Some k
  first_faulty_lem n k m h e l = first_found fault_at n k k m h (tested k e l)
