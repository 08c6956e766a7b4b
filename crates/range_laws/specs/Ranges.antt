-- The numbers below n, as a chain over a range lists them: how many pass a test, and whether any does, as the scans of `definitions` say it. Assumes nothing.
use Prim.Native.Nat.{ℕ, zero, suc, ◌+◌}
use native.Mathlib.Omega.{arith}
use mathlib.Core.Path.{◌≡◌, refl, sym, ap, ◌∙◌}
use mathlib.Core.Bool.{Bool, true, false, cond, ◌||◌, or-false, or_assoc}
use mathlib.Core.List.{◌∷◌}
use lib.ListN.{length}
use Rattle.std.specs.List.{filter, list_any, range_with_len}
use Rattle.std.proofs.Common.{add-zero, zero-add}
use Rattle.definitions.specs.Scan.{bit, count_below, any_below_lem}
use Rattle.laws.specs.ListLaws.ScanSteps.{count_next, any_next}

module _ (f : ℕ → Bool) where
  counted_from : (a n : ℕ) → count_below (a + n) f ≡ count_below a f + length (filter f (range_with_len a n))
  counted_from a zero = simp add-zero refl
  counted_from a (suc n) =
      let e : a + suc n ≡ a + 1 + n = omega arith in
      ap (λ m. count_below m f) e ∙ counted_from (a + 1) n ∙ next (f a) (count_next f a)
    where
      next : (b : Bool) → count_below (a + 1) f ≡ count_below a f + bit b
          → count_below (a + 1) f + length (filter f (range_with_len (a + 1) n)) ≡ count_below a f + length (cond b (a ∷ filter f (range_with_len (a + 1) n)) (filter f (range_with_len (a + 1) n)))
      next true h = omega arith
      next false h = omega arith

  pub counted_range : (n : ℕ) → length (filter f (range_with_len 0 n)) ≡ count_below n f
  unfolding count_below
  counted_range n = sym (ap (λ m. count_below m f) (sym (zero-add n)) ∙ counted_from 0 n ∙ zero-add _)

  any_from : (a n : ℕ) → any_below_lem (a + n) f ≡ (any_below_lem a f || list_any f (range_with_len a n))
  any_from a zero = ap (λ m. any_below_lem m f) (add-zero a) ∙ sym (or-false (any_below_lem a f))
  any_from a (suc n) =
      let e : a + suc n ≡ a + 1 + n = omega arith in
      let rest = list_any f (range_with_len (a + 1) n) in
      ap (λ m. any_below_lem m f) e ∙ any_from (a + 1) n ∙ ap (λ b. b || rest) (any_next f a) ∙ or_assoc (any_below_lem a f) (f a) rest

  pub any_range : (n : ℕ) → list_any f (range_with_len 0 n) ≡ any_below_lem n f
  unfolding any_below_lem
  any_range n = sym (ap (λ m. any_below_lem m f) (sym (zero-add n)) ∙ any_from 0 n)
