-- `Region::dominance` meets its contract: a region on a map has no count over 32 bits. Assumes nothing.
use Rattle.definitions.specs.RegionRecord.{dominance}
use Rattle.context.proofs.Region.dominance.Goals as goal

pub returns : goal.returns
unfolding dominance
returns c = c.dominance_of.ensures
