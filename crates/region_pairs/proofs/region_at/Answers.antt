-- `region_pairs::region_at` meets its contract, by the search; written so that a wrong body is refused sooner. Assumes nothing.
use Rattle.std.proofs.Common.{rules}
use Rattle.region_pairs.proofs.region_at.Goals as goal

pub returns : goal.returns
returns c = search rules
