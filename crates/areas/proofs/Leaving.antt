-- Refusals whose number leaves every lent list as it was (`Leaves`): those of checks 1 to 10. Assumes nothing.
use Prim.Native.Nat.{ℕ, zero, suc}
use mathlib.Core.Path.{◌≡◌}
use mathlib.Core.Bool.{Bool, true, false}
use Rattle.std.specs.Prelude.{Option, None, Some}
use Rattle.definitions.specs.Scan.{only_if}
use Rattle.definitions.specs.Refusals.{Refusal, or_else, first_below_lem}
use Rattle.definitions.specs.Verdict.{refusal}
use Rattle.definitions.specs.AtExit.{stage_of, untouched}

unfoldable pub Leaves : Option Refusal → Type 0
Leaves None = Unit
Leaves (Some x) = stage_of x.number ≡ untouched

pub leaves_or : (a b : Option Refusal) → Leaves a → Leaves b → Leaves (or_else a b)
unfolding Leaves
leaves_or None b h k = k
leaves_or (Some x) b h k = h

pub leaves-refusal : (number : ℕ) (o : Option ℕ) → stage_of number ≡ untouched → Leaves (refusal number o)
unfolding Leaves
leaves-refusal number None h = tt
leaves-refusal number (Some place) h = h

pub leaves_only : (b : Bool) (x : Refusal) → stage_of x.number ≡ untouched → Leaves (only_if b x)
unfolding Leaves
leaves_only true x h = h
leaves_only false x h = tt

pub leaves_first : (f : ℕ → Option Refusal) → ((i : ℕ) → Leaves (f i)) → (n : ℕ) → Leaves (first_below_lem n f)
unfolding first_below_lem Leaves
leaves_first f h zero = tt
leaves_first f h (suc n) = leaves_or (first_below_lem n f) (f n) (leaves_first f h n) (h n)
