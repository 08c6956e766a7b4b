-- `interior_regions::is_inside` meets its contract, by the search; written so that a wrong body is refused sooner. Assumes nothing.
use Rattle.std.proofs.Common.{rules}
use Rattle.interior_regions.proofs.is_inside.Goals as goal

pub returns : goal.returns
returns c = search rules
