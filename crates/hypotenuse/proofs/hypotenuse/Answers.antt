-- `hypotenuse` meets its contract: what the patterns say of the two doubles is what the definition says. Assumes nothing.
use mathlib.Core.Path.{◌≡◌, sym, ◌∙◌, subst}
use mathlib.Core.Bool.{true}
use Prim.Native.Nat.{ℕ, ◌+◌, ◌*◌}
use native.Mathlib.Nat.{le_of_lt}
use lib.Dec.{T}
use lib.Ieee.{Float, binary64, fits}
use Rattle.definitions.specs.Hypotenuse.{root_of, hypot_number, hypot_value}
use Rattle.definitions.specs.Nearest.{pattern_magnitude}
use Rattle.laws.specs.FloatLaws.Patterns.{no_nan}
use Rattle.laws.specs.FloatLaws.PatternOrder.{pattern_in_range}
use Rattle.hypotenuse.proofs.Outcomes.{answered, refused-x, refused-y}
use Rattle.hypotenuse.proofs.hypotenuse.Goals as goal
use Rattle.hypotenuse.proofs.hypotenuse.Goals.{else-in_range-via-then-in_range+else-in_range-2, else-in_range-via-else-in_range}

pub float_from_bits-result : goal.float_from_bits-result
float_from_bits-result c = no_nan c.hypotenuse_pattern.result (le_of_lt c.hypotenuse_pattern.ensures.1)

pub returns-then-in_range-2 : goal.returns-then-in_range-2
returns-then-in_range-2 c =
    let x : Float = c.args.x in
    let y : Float = c.args.y in
    let a : ℕ = c.bits_of-a.result in
    let b : ℕ = c.bits_of-b.result in
    let x_fits : T (fits binary64 x) = subst T (sym c.well_formed.0.1) tt in
    let y-fits : T (fits binary64 y) = subst T (sym c.well_formed.1.0.1) tt in
    let root_of_lem : pattern_in_range a ≡ true → pattern_in_range b ≡ true → (0 ≡ hypot_number x y) × (root_of (pattern_magnitude a * pattern_magnitude a + pattern_magnitude b * pattern_magnitude b) ≡ hypot_value x y) = λ p q. answered x y x_fits y-fits a b c.bits_of-a.ensures c.bits_of-b.ensures p q in
    let first_in_lem : pattern_in_range a ≡ true = sym c.in_range.ensures ∙ c.if-in_range.true in
    let second_in_lem : pattern_in_range b ≡ true = sym c.in_range-then-in_range.ensures ∙ c.if-in_range-2.true in
    let r = root_of_lem first_in_lem second_in_lem in
    (r.0, c.hypotenuse_pattern.ensures.0 ∙ r.1)

pub returns-else-in_range : goal.returns-else-in_range
returns-else-in_range c =
    let x : Float = c.args.x in
    let y : Float = c.args.y in
    let a : ℕ = c.bits_of-a.result in
    let b : ℕ = c.bits_of-b.result in
    let x_fits : T (fits binary64 x) = subst T (sym c.well_formed.0.1) tt in
    let y-fits : T (fits binary64 y) = subst T (sym c.well_formed.1.0.1) tt in
    elim c.else-in_range.branch [
      | else-in_range-via-then-in_range+else-in_range-2 w ↦ refused-y x y x_fits y-fits a b c.bits_of-a.ensures c.bits_of-b.ensures (sym c.in_range.ensures ∙ w.if-in_range.true) (sym w.in_range-then-in_range.ensures ∙ w.if-in_range-2.false)
      | else-in_range-via-else-in_range w ↦ refused-x x y x_fits y-fits a b c.bits_of-a.ensures c.bits_of-b.ensures (sym c.in_range.ensures ∙ w.if-in_range.false)
    ]
