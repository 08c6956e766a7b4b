-- `widths::width_of` meets its contract: a width is no NaN, so that it is its bits. Assumes nothing.
use Prim.Native.Nat.{◌*◌, ◌^◌, ◌<◌}
use native.Mathlib.Nat.{le_of_lt}
use mathlib.Core.Path.{sym, ap, subst}
use lib.Ieee.{binary64, of_bits}
use Rattle.laws.specs.FloatLaws.Patterns.{no_nan}
use Rattle.geometry.proofs.widths.width_of.Goals as goal

pub float_from_bits-result : goal.float_from_bits-result
float_from_bits-result c = no_nan _ (le_of_lt (subst (λ w. w < 2047 * 2 ^ 52) (sym c.width_at.ensures) c.requires.finite))

pub returns : goal.returns
returns c = ap (of_bits binary64) c.width_at.ensures
