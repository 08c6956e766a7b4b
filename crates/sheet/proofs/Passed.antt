-- What `?` returns where a step was refused: the refusal of that step; and what is known behind `ensure`. Assumes nothing.
use Rattle.std.specs.Prelude.{◌≡◌, ℕ, Bool, true, false, Option, None, Some, Result, Err, IsErrAnd}
use Rattle.std.proofs.Common.{refl, sym, ap, ◌∙◌, arith}
use Rattle.std.proofs.lemmas.Result.{err_from_is_err_and}
use Rattle.definitions.specs.SheetNumber.{Read, failed}
use Rattle.definitions.specs.Refusals.{Refusal as by_number, unless}
use Rattle.definitions.specs.Verdict.{Answer, refusal}
use Rattle.refusals.specs.declared.Refusal.{Refusal}
use Rattle.refusals.specs.Answers.{answer_of}
use Rattle.refusals.specs.Refusals.{number_of, refusal_of}

pub passed : {A E : Type 0} {e : E} (r : Result A E) → IsErrAnd r (λ x. x ≡ e) → r ≡ Err e
passed r h =
    let p = err_from_is_err_and r h in
    p.1 ∙ ap Err p.2

-- what was asked where `ensure` refuses, and its refusal
pub refuses : (number : ℕ) (fits : Bool) (r : Refusal) → Some (refusal_of r) ≡ refusal number (unless fits)
    → (fits ≡ false) × (refusal_of r ≡ record { number = number; place = 0 })
refuses number true r p = absurd (let z : ◌≡◌ {A = ℕ} 0 1 = cc in omega arith)
refuses number false r p = (refl, ap inner p)
  where
    inner : Option by_number → by_number
    inner (Some x) = x
    inner None = record { number = 0; place = 0 }

-- that refusal as a reader's failure
pub failure_of : {A : Type 0} (number : ℕ) (r : Refusal) → refusal_of r ≡ record { number = number; place = 0 } → ◌≡◌ {A = Read A} (failed number 0) (failed (number_of r.cause) r.place)
failure_of number r p = sym (ap (λ x. failed x.number x.place) p)

-- and as a call's answer
pub answer_as : (number : ℕ) (r : Refusal) → refusal_of r ≡ record { number = number; place = 0 } → ◌≡◌ {A = Answer} (answer_of (Err r)) (record { number = number; value = 0 })
answer_as number r p = ap (λ x. record { number = x.number; value = x.place }) p
