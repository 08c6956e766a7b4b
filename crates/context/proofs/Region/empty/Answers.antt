-- `Region::empty` meets its contract: both sides compute to the same record. Assumes nothing.
use mathlib.Core.Path.{refl}
use lib.Ieee.{of_bits, of_int}
use Rattle.definitions.specs.Geometry.{float}
use Rattle.definitions.specs.RegionRecord.{empty_region}
use Rattle.context.proofs.Region.empty.Goals as goal

pub returns : goal.returns
unfolding empty_region float of_bits of_int
returns c = refl
