-- The operation's answer, composed with the relation: where both arguments are in range, every answer that the contract of `hypotenuse` allows has number 0, and its value is
-- the double nearest to the root of the sum of squares, ties to the even significand (`Nearest`). Assumes nothing.
use Rattle.std.specs.Prelude.{◌≡◌, refl, true, Float, Option}
use Rattle.std.proofs.Common.{sym, subst}
use Rattle.std.specs.Float.{binary64}
use Rattle.std.specs.Float.Ieee.{to_bits}
use Rattle.definitions.specs.Hypotenuse.{in_range, sum_of_squares}
use Rattle.definitions.specs.Nearest.{Nearest}
use Rattle.laws.specs.FloatLaws.Hypotenuse.{hypot_of-nearest}
use Rattle.hypotenuse.specs.Contract.{number_of, value_of, Allowed, root-in_range}

pub root-nearest : (x y : Float) (r : Option Float) → in_range x ≡ true → in_range y ≡ true → Allowed x y r
    → (number_of r ≡ 0) × Nearest (sum_of_squares x y) (to_bits binary64 (value_of r))
root-nearest x y r p q h =
    subst (λ (s : Option Float). (number_of s ≡ 0) × Nearest (sum_of_squares x y) (to_bits binary64 (value_of s))) (sym (root-in_range x y r p q h)) (refl, hypot_of-nearest x y p q)
