-- `share_of` meets its contract: some cells have quotient and remainder, and none have no share. Assumes nothing.
use Rattle.elevations.proofs.Counts.{share_some, share_none}
use Rattle.elevations.proofs.share_of.Goals as goal

pub returns-then-cells-eq0 : goal.returns-then-cells-eq0
returns-then-cells-eq0 c = share_none _ _ c.if-cells-eq0.true

pub returns : goal.returns
returns c = share_some _ _ c.if-cells-eq0.false
