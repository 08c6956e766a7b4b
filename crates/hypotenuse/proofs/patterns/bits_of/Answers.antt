-- `patterns::bits_of` meets its contract. Assumes nothing.
use mathlib.Core.Path.{◌≡◌, refl, sym, ◌∙◌}
use mathlib.Core.Bool.{true, false, false≢true}
use Prim.Native.Nat.{◌%◌, ◌^◌}
use lib.Ieee.{Float, nan, inf, fin, binary64, is_nan, to_bits}
use Rattle.laws.specs.FloatLaws.Patterns.{pattern_of}
use Rattle.hypotenuse.proofs.patterns.bits_of.Goals as goal

at_nan : (x : Float) → is_nan x ≡ true → 2 ^ 63 ≡ pattern_of x
unfolding pattern_of is_nan
at_nan nan h = refl
at_nan (inf s) h = absurd (false≢true h)
at_nan (fin s m e) h = absurd (false≢true h)

pattern : (x : Float) → is_nan x ≡ false → to_bits binary64 x % 2 ^ 63 ≡ pattern_of x
unfolding pattern_of is_nan
pattern nan h = absurd (false≢true (sym h))
pattern (inf s) h = refl
pattern (fin s m e) h = refl

pub returns-then-is_nan : goal.returns-then-is_nan
returns-then-is_nan c = at_nan c.args.x (sym c.is_nan.ensures.value ∙ c.if-is_nan.true)

pub returns : goal.returns
returns c = pattern c.args.x (sym c.is_nan.ensures.value ∙ c.if-is_nan.false)
