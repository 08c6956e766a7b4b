-- `topology::numbers::bits_of` meets its contract: all NaNs are one in the definitions. Assumes nothing.
use Rattle.std.proofs.Common.{◌≡◌, refl, sym, ◌∙◌, true, true≢false}
use lib.Ieee.{Float, nan, inf, fin, binary64, is_nan, to_bits}
use Rattle.topology.proofs.numbers.bits_of.Goals as goal

at_nan : (x : Float) → is_nan x ≡ true → 9221120237041090560 ≡ to_bits binary64 x
unfolding is_nan to_bits
at_nan nan h = refl
at_nan (inf s) h = absurd (true≢false (sym h))
at_nan (fin s m e) h = absurd (true≢false (sym h))

pub returns-then-is_nan : goal.returns-then-is_nan
returns-then-is_nan c = at_nan c.args.x (sym c.is_nan.ensures.value ∙ c.if-is_nan.true)
