-- `numbers::difference` meets its contract: both numbers are what `float` ensures. Assumes nothing.
use lib.Ieee.{binary64, sub}
use Rattle.definitions.specs.RampGeometry.{difference}
use Rattle.geometry.proofs.numbers.difference.Goals as goal

pub returns : goal.returns
unfolding difference
returns c = λ i. sub binary64 (c.float.ensures i) (c.float-2.ensures i)
