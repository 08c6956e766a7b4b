-- Disjunctions in whichever order they are written. Assumes nothing.
use Rattle.std.specs.Prelude.{◌≡◌, refl, Bool, true, false, ◌||◌}
use Rattle.std.proofs.Math.Bool.{or_assoc, or_comm}

pub or_left_comm : (a b c : Bool) → (a || (b || c)) ≡ (b || (a || c))
or_left_comm true true c = refl
or_left_comm true false c = refl
or_left_comm false b c = refl

-- for `simp`: both sides of an equation between disjunctions of the same tests come to one order
pub ruleset disjunction = (or_assoc, or_comm, or_left_comm)

pub or_middle : (a b c d : Bool) → (a || b || (c || d)) ≡ (a || c || (b || d))
or_middle a b c d = simp disjunction
