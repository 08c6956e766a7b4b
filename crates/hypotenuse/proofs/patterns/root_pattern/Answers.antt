-- `patterns::root_pattern` meets its contract: both are zero, or far apart, or both have their leading digit, and the root is that of `short_root` or of
-- `near_pattern`. Assumes nothing.
use mathlib.Core.Path.{◌≡◌, refl, sym, ap, ◌∙◌}
use mathlib.Core.Logic.{⊎_elim}
use Prim.Native.Nat.{ℕ, ◌+◌, ◌-◌, ◌*◌, ◌/◌, ◌%◌, ◌^◌, ◌≤◌}
use native.Mathlib.Nat.{add_comm}
use native.Mathlib.Omega.{arith}
use lib.Dec.{T}
use lib.Ieee.{binary64, of_bits}
use Rattle.definitions.specs.Hypotenuse.{root_of}
use Rattle.definitions.specs.Nearest.{pattern_magnitude}
use Rattle.laws.specs.FloatLaws.Patterns.{magnitude-normal}
use Rattle.laws.specs.FloatLaws.PatternOrder.{pattern_in_range}
use Rattle.hypotenuse.proofs.Apart.{apart}
use Rattle.hypotenuse.proofs.Outcomes.{within}
use Rattle.hypotenuse.proofs.patterns.root_pattern.Goals as goal

zero-root : of_bits binary64 0 ≡ root_of (pattern_magnitude 0 * pattern_magnitude 0 + pattern_magnitude 0 * pattern_magnitude 0)
unfolding of_bits root_of pattern_magnitude
zero-root = refl

both_zero : (b s : ℕ) → b ≡ 0 → s ≤ b → of_bits binary64 0 ≡ root_of (pattern_magnitude b * pattern_magnitude b + pattern_magnitude s * pattern_magnitude s)
both_zero b s e l =
    let z : s ≡ 0 = omega arith in
    zero-root ∙ (λ i. root_of (pattern_magnitude (sym e i) * pattern_magnitude (sym e i) + pattern_magnitude (sym z i) * pattern_magnitude (sym z i)))

-- a pattern that is not zero's
normal : (b : ℕ) → T (pattern_in_range b) → (b ≡ 0 → ⊥) → (959 * 2 ^ 52 ≤ b) × (b ≤ 1038 * 2 ^ 52)
normal b t n = ⊎_elim (λ z. absurd (n z)) (λ h. h) (within b t)

-- so is one that is not far below
normal-near : (b s : ℕ) → T (pattern_in_range s) → 959 * 2 ^ 52 ≤ b → b / 2 ^ 52 - s / 2 ^ 52 ≤ 27 → 959 * 2 ^ 52 ≤ s
normal-near b s t h g = ⊎_elim (λ z. omega arith) (λ w. w.0) (within s t)

-- the digits and exponents that `near_pattern` is given are those of the magnitudes
magnitude_of : (b e : ℕ) → 2 ^ 52 ≤ b → e ≡ b / 2 ^ 52 - 1 → (b % 2 ^ 52 + 2 ^ 52) * 2 ^ e ≡ pattern_magnitude b
magnitude_of b e h p = (λ i. add_comm (b % 2 ^ 52) (2 ^ 52) i * 2 ^ p i) ∙ sym (magnitude-normal b h)

pub returns-then-larger-eq0 : goal.returns-then-larger-eq0
returns-then-larger-eq0 c = (both_zero c.args.larger c.args.smaller c.if-larger-eq0.true c.requires.smaller_within, omega arith)

pub returns-then-gap-gt-MAX_GAP : goal.returns-then-gap-gt-MAX_GAP
returns-then-gap-gt-MAX_GAP c =
    let n = normal c.args.larger c.requires.larger_in_range c.if-larger-eq0.false in
    (apart c.args.larger c.args.smaller n.1 (omega (arith, c.exponent-top.ensures, c.exponent.ensures, c.if-gap-gt-MAX_GAP.true)), omega arith)

pub returns : goal.returns
returns c =
    let b = c.args.larger in
    let s = c.args.smaller in
    let n = normal b c.requires.larger_in_range c.if-larger-eq0.false in
    let top = c.exponent-top.result in
    let low = c.exponent.result in
    let m = normal-near b s c.requires.smaller_in_range n.0 (omega (arith, c.exponent-top.ensures, c.exponent.ensures, c.if-gap-gt-MAX_GAP.false)) in
    let x = ap (λ (z : ℕ). z * 2 ^ (top - 1)) c.significand.ensures ∙ magnitude_of b (top - 1) (omega arith) (omega (arith, c.exponent-top.ensures)) in
    let y = ap (λ (z : ℕ). z * 2 ^ (top - 1 - (top - low))) c.significand-2.ensures
    ∙ magnitude_of s (top - 1 - (top - low)) (omega arith) (omega (arith, c.exponent-top.ensures, c.exponent.ensures, c.requires.smaller_within)) in
    (c.near_pattern.ensures.0 ∙ (λ i. root_of (x i * x i + y i * y i)), c.near_pattern.ensures.1)
