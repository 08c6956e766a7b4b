-- What it says that a check finds no fault: the test holds, and of a search for the first faulty place, every place passes. Assumes nothing.
use Prim.Native.Nat.{ℕ, zero, suc, ◌≤◌, ◌<◌}
use native.Mathlib.Omega.{arith}
use Rattle.std.specs.Prelude.{◌≡◌, Bool, not, Option, None, Some}
use Rattle.std.proofs.Math.Path.{refl, ap}
use Rattle.std.proofs.Common.{◌∙◌, true≢false, ltb-true, ltb-false}
use Rattle.std.proofs.Math.Bool.{true, false}
use Rattle.std.proofs.Math.Dec.{ltb}
use Rattle.definitions.specs.Scan.{only_if}
use Rattle.definitions.specs.Refusals.{or_else, first_below_lem, first_faulty}

module _ {A : Type 0} where
  abbrev pub found : Option A → Bool
  found None = false
  found (Some a) = true

  pub no_fault_lem : (ok : Bool) (a : A) → only_if (not ok) a ≡ None → ok ≡ true
  no_fault_lem true a h = refl
  no_fault_lem false a h = absurd (true≢false (ap found h))

  pub or_else_none : (x y : Option A) → or_else x y ≡ None → (x ≡ None) × (y ≡ None)
  or_else_none None y h = (refl, h)
  or_else_none (Some a) y h = absurd (true≢false (ap found h))

  pub none_at : (f : ℕ → Option A) (n : ℕ) → first_below_lem n f ≡ None → (i : ℕ) → i < n → f i ≡ None
  unfolding first_below_lem
  none_at f zero h i l = absurd (omega arith)
  none_at f (suc n) h i l = go (ltb i n) refl (or_else_none (first_below_lem n f) (f n) h) (λ k. none_at f n k i)
    where
      go : (b : Bool) → ltb i n ≡ b → (first_below_lem n f ≡ None) × (f n ≡ None) → (first_below_lem n f ≡ None → i < n → f i ≡ None) → f i ≡ None
      go true e s ih = ih s.0 (ltb-true i n e)
      go false e s ih = ap f (last (ltb-false i n e)) ∙ s.1
        where
          last : n ≤ i → i ≡ n
          last h = omega arith

pub none_faulty : (fits : ℕ → Bool) (n : ℕ) → first_faulty n fits ≡ None → (i : ℕ) → i < n → fits i ≡ true
none_faulty fits n h i l = no_fault_lem (fits i) i (none_at (λ k. only_if (not (fits k)) k) n h i l)
