-- Checks one after the other, each with `?` behind it: the first refusal is that of the first check that refuses. Assumes nothing.
use Prim.Native.Nat.{ℕ, ◌≤◌}
use Rattle.refusals.specs.declared.Cause.{Cause}
use Rattle.refusals.specs.Refusals.{number_of, refusal_of}
use Rattle.refusals.specs.Answers.{answer_of}
use mathlib.Core.List.{List, ◌∷◌}
use mathlib.Core.Path.{◌≡◌, refl, sym, ap, ◌∙◌}
use mathlib.Core.Bool.{Bool, true, false}
use borrow.Author.Rules.{rules}
use Rattle.std.specs.Prelude.{Option, None, Some, Result, Ok, Err, IsOk}
use Rattle.refusals.specs.declared.Refusal as code
use Rattle.definitions.specs.Refusals.{Refusal, or_else, unless}
use Rattle.definitions.specs.Verdict.{Answer, refusal, first_refusal}

-- a check that refuses, with those behind it
pub here : {a : Option Refusal} (b : Option Refusal) {x : Refusal} → a ≡ Some x → Some x ≡ or_else a b
here b p = sym (ap (λ o. or_else o b) p)

-- a check that does not, and what those behind it say
pub next : {a b o : Option Refusal} → a ≡ None → o ≡ b → o ≡ or_else a b
next {b} p q = q ∙ sym (ap (λ o. or_else o b) p)

-- what `ensure(r, ..)` said, of the test that r answers
pub ensured : (number : ℕ) {r ok : Bool} {o : Option Refusal} → r ≡ ok → o ≡ refusal number (unless r) → refusal number (unless ok) ≡ o
ensured number e p = ap (λ b. refusal number (unless b)) (sym e) ∙ sym p

-- what `no_fault(f, ..)` said, of the search that f answers
pub searched : (number : ℕ) {f place : Option ℕ} {o : Option Refusal} → f ≡ place → o ≡ refusal number f → refusal number place ≡ o
searched number e p = ap (refusal number) (sym e) ∙ sym p

-- the same of a list of checks with a count behind them, as an answer says it: a check that refuses, whatever comes behind it
pub stopped : {a : Option Refusal} (l : List (Option Refusal)) (n : ℕ) (r : code.Refusal) → a ≡ Some (refusal_of r) → answer_of (Err r) ≡ first_refusal (a ∷ l) n
stopped l n r p = sym (ap (λ o. first_refusal (o ∷ l) n) p)

-- a check that does not, and the answer of those behind it
pub passed : {a : Option Refusal} (l : List (Option Refusal)) (n : ℕ) {x : Answer} → a ≡ None → x ≡ first_refusal l n → x ≡ first_refusal (a ∷ l) n
passed l n p q = q ∙ sym (ap (λ o. first_refusal (o ∷ l) n) p)

-- a test that `ensure(..)?` went on behind
pub holds : (number : ℕ) (r : Bool) → None ≡ refusal number (unless r) → r ≡ true
holds number true p = search rules
holds number false p = cc

-- a refusal's number is not 0, which is that of success
pub positive : (c : Cause) → 1 ≤ number_of c
positive c = search rules

-- what is never a refusal
pub is-ok : {A : Type 0} (r : Result A code.Refusal) → ((x : code.Refusal) → r ≡ Err x → ⊥) → IsOk r
is-ok (Ok a) h = refl
is-ok (Err x) h = absurd (h x refl)
