-- The first refusal of a list of checks, where the first of them are put as one (`joined`). Assumes nothing.
use Prim.Native.Nat.{ℕ}
use mathlib.Core.Path.{◌≡◌, refl}
use Rattle.std.specs.Prelude.{Option, None, Some}
use mathlib.Core.List.{List, [], ◌∷◌, ◌++◌}
use Rattle.definitions.specs.Refusals.{Refusal, or_else}
use Rattle.definitions.specs.Verdict.{first_refusal}

-- the first refusal of the list
abbrev pub joined : List (Option Refusal) → Option Refusal → Option Refusal
joined [] last = last
joined (a ∷ l) last = or_else a (joined l last)

-- with those that come after them
pub first_joined : (l : List (Option Refusal)) (last : Option Refusal) (rest : List (Option Refusal)) (count : ℕ) → first_refusal (l ++ (last ∷ rest)) count ≡ first_refusal (joined l last ∷ rest) count
first_joined [] last rest count = refl
first_joined (None ∷ l) last rest count = first_joined l last rest count
first_joined (Some x ∷ l) last rest count = refl
