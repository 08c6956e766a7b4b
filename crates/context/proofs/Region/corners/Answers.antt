-- `Region::corners` meets its contract: both sides compute to the same four points. Assumes nothing.
use mathlib.Core.Path.{refl}
use Rattle.definitions.specs.RegionRecord.{corners}
use Rattle.context.proofs.Region.corners.Goals as goal

pub returns : goal.returns
unfolding corners
returns c = refl
