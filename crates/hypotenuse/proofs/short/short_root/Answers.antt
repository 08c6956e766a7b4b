-- `short::short_root` meets its contract: the root that was checked is the nearest whole number in its unit. Assumes nothing.
use mathlib.Core.Path.{◌≡◌, sym, ap, ◌∙◌}
use Prim.Native.Nat.{ℕ, ◌+◌, ◌-◌, ◌*◌, ◌/◌, ◌%◌, ◌^◌, ◌≤◌, ◌<◌}
use native.Mathlib.Omega.{arith}
use lib.Ieee.{binary64, of_bits}
use Rattle.definitions.specs.Hypotenuse.{root_of}
use Rattle.definitions.specs.Nearest.{pattern_magnitude}
use Rattle.laws.specs.FloatLaws.Patterns.{made}
use Rattle.hypotenuse.specs.Short.{short_squares, NearestWhole}
use Rattle.hypotenuse.proofs.NearestRoot.{nearest-made}
use Rattle.hypotenuse.proofs.Aligned.{squares-are}
use Rattle.hypotenuse.proofs.short.short_root.Goals as goal

-- the root that was found, of the patterns b and s
found : (b s top up m root : ℕ) → 2 ^ 52 ≤ s → s ≤ b → b ≤ 1038 * 2 ^ 52 → b % 2 ^ 36 ≡ 0 → s % 2 ^ 36 ≡ 0 → b / 2 ^ 52 ≤ top → up ≡ top - s / 2 ^ 52 → up ≤ 14
    → m ≡ short_squares b s * 2 ^ (28 - 2 * up) → NearestWhole (m * 2 ^ 44) root
    → (of_bits binary64 ((top - 1) * 2 ^ 52 + root) ≡ root_of (pattern_magnitude b * pattern_magnitude b + pattern_magnitude s * pattern_magnitude s)) × ((top - 1) * 2 ^ 52 + root < 2047 * 2 ^ 52)
found b s top up m root normal order most few-b few-s high up_is up_le m-is near =
    let k : top - 1 < 1060 = omega arith in (
      made root (top - 1) (omega (arith, near.least)) (omega (arith, near.most)) (omega arith)
          ∙ sym (nearest-made (m * 2 ^ 44) root (top - 1) near)
          ∙ ap (λ (z : ℕ). root_of (z * 2 ^ 44 * (2 ^ (top - 1) * 2 ^ (top - 1)))) m-is
          ∙ ap root_of (sym (squares-are b s top up normal order few-b few-s high up_is up_le)),
      omega (arith, near.most),
    )

pub returns : goal.returns
returns c =
    let top = c.exponent-top.result in
    found c.args.larger c.args.smaller top _ c.squares.result c.in_ok-root.root
    c.requires.0 c.requires.1 c.requires.2 (omega arith) (omega arith) (omega (arith, c.exponent.ensures, c.if-top-exponent.false)) (ap (λ e. top - e) c.exponent-2.ensures) c.if-up-gt14.false
    c.squares.ensures c.in_ok-root.ensures
