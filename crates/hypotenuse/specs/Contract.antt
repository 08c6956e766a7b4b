-- The number and the value of each answer (SPECIFICATION 6), and what the contract of `hypotenuse` says in these words: it leaves one answer to each pair of doubles. Assumes nothing.
use Rattle.std.specs.Prelude.{◌≡◌, refl, true, false, cond, ◌&&◌, ℕ, Float, pos, Option, None, Some}
use Rattle.std.proofs.Common.{ap, ◌∙◌, arith}
use Rattle.std.specs.Float.{fin}
use Rattle.definitions.specs.Hypotenuse.{in_range, hypot_of, hypot_number, hypot_value}

abbrev pub number_of : Option Float → ℕ
number_of (Some r) = 0
number_of None = 13

abbrev pub value_of : Option Float → Float
value_of (Some r) = r
value_of None = fin false 0 (pos 0)

-- r is an answer to x and y that the contract allows
abbrev pub Allowed : Float → Float → Option Float → Type 0
Allowed x y r = (number_of r ≡ hypot_number x y) × (value_of r ≡ hypot_value x y)

pub is_root_lem : (x y : Float) (r : Option Float) → hypot_number x y ≡ 0 → Allowed x y r → r ≡ Some (hypot_value x y)
is_root_lem x y (Some v) e h = ap Some h.1
is_root_lem x y None e h = absurd (differ (h.0 ∙ e))
  where
    differ : ◌≡◌ {A = ℕ} 13 0 → ⊥
    differ z = omega arith

pub is_refused_lem : (x y : Float) (r : Option Float) → hypot_number x y ≡ 13 → Allowed x y r → r ≡ None
is_refused_lem x y (Some v) e h = absurd (differ (h.0 ∙ e))
  where
    differ : ◌≡◌ {A = ℕ} 0 13 → ⊥
    differ z = omega arith
is_refused_lem x y None e h = refl

-- in range it is the root
pub root-in_range : (x y : Float) (r : Option Float) → in_range x ≡ true → in_range y ≡ true → Allowed x y r → r ≡ Some (hypot_of x y)
unfolding hypot_number hypot_value
root-in_range x y r p q h = is_root_lem x y r (λ i. cond (p i && q i) 0 13) h ∙ ap Some (λ i. cond (p i && q i) (hypot_of x y) (fin false 0 (pos 0)))
