-- `interior_regions::record_place` meets its contract, by the search; written so that a wrong body is refused sooner. Assumes nothing.
use Rattle.std.proofs.Common.{rules}
use Rattle.interior_regions.proofs.record_place.Goals as goal

pub returns : goal.returns
returns c = search rules
