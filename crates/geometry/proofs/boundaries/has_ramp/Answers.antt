-- `geometry::boundaries::has_ramp` meets its contract, by the search; written so that a wrong body is refused sooner. Assumes nothing.
use Rattle.std.proofs.Common.{rules}
use Rattle.geometry.proofs.boundaries.has_ramp.Goals as goal

pub returns : goal.returns
returns c = search rules
