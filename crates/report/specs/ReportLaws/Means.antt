-- Request 13, means: "the mean kept for an accepted run as quotient and exact remainder". Assumes nothing.
use Rattle.std.specs.Prelude.{ℕ, zero, suc, ◌+◌, ◌*◌, ◌/◌, ◌%◌, ◌<◌, ◌≡◌, refl, None, Some}
use Rattle.std.proofs.Common.{arith, div-add-mod', mod-lt, sym, ap, ◌∙◌, subst}
use Rattle.std.proofs.lemmas.Option.{same_Some, none-some}
use Rattle.std.proofs.Math.Arith.{digits_div, digits_mod}
use Rattle.report.specs.Report.{Mean, mean_of}

-- so many kept in so many runs
pub record IsMean (runs kept : ℕ) (m : Mean) : Type 0 where
  pub exact : kept ≡ m.quotient * runs + m.remainder
  pub below : m.remainder < runs

pub mean_exact : (runs kept : ℕ) (m : Mean) → mean_of runs kept ≡ Some m → IsMean runs kept m
mean_exact zero kept m e = absurd (none-some m e)
mean_exact (suc n) kept m e =
    subst (IsMean (suc n) kept) (same_Some _ m e)
    (record { exact = sym (div-add-mod' kept (suc n)); below = mod-lt kept (omega arith) })

-- a quotient and a remainder that fit are the answer: so there is no other, and none of no runs
pub mean_only : (runs kept : ℕ) (m : Mean) → IsMean runs kept m → mean_of runs kept ≡ Some m
mean_only zero kept m s = absurd (omega (arith, s.below))
mean_only (suc n) kept m s = λ i. Some (record { quotient = quotient i; remainder = remainder i })
  where
    quotient : kept / suc n ≡ m.quotient
    quotient = ap (λ (k : ℕ). k / suc n) s.exact ∙ digits_div m.quotient s.below

    remainder : kept % suc n ≡ m.remainder
    remainder = ap (λ (k : ℕ). k % suc n) s.exact ∙ digits_mod m.quotient s.below

-- "A pass with no accepted run has no mean.", and every other has one
pub no_mean : (kept : ℕ) → mean_of 0 kept ≡ None
no_mean kept = refl

pub has_mean_lem : (runs kept : ℕ) → mean_of runs kept ≡ None → runs ≡ 0
has_mean_lem zero kept e = refl
has_mean_lem (suc n) kept e = absurd (none-some _ (sym e))
