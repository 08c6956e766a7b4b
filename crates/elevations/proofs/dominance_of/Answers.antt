-- `dominance_of` meets its contract, from what its two callees ensure. Assumes nothing.
use Rattle.elevations.proofs.Counts.{dominance_from}
use Rattle.elevations.proofs.dominance_of.Goals as goal

pub returns : goal.returns
returns c = dominance_from _ _ c.most_common_elevation-elevation.ensures.answer c.share_at-share.ensures
