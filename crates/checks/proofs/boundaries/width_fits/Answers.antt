-- `checks::boundaries::width_fits` meets its contract, by the law on the bits of a width. Assumes nothing.
use mathlib.Core.Path.{sym}
use Rattle.laws.specs.FloatLaws.WidthBits.{width_as_bits}
use Rattle.checks.proofs.boundaries.width_fits.Goals as goal

pub returns : goal.returns
returns c = sym (width_as_bits c.args.bits)
