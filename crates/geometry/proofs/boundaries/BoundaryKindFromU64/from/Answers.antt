-- `geometry::boundaries::BoundaryKindFromU64::from` meets its contract, by the search; written so that a wrong body is refused sooner. Assumes nothing.
use Rattle.std.proofs.Common.{rules}
use Rattle.geometry.proofs.boundaries.BoundaryKindFromU64.from.Goals as goal

pub returns-in_default : goal.returns-in_default
returns-in_default c = search rules
