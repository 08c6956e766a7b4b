-- `numbers::float` meets its contract: a number up to 8,192 is a double. Assumes nothing.
use mathlib.Core.Path.{refl}
use lib.Ieee.{of_int}
use Rattle.definitions.specs.Geometry.{float}
use Rattle.geometry.proofs.numbers.float.Goals as goal

pub returns : goal.returns
unfolding of_int float
returns c = refl
