-- `region_pairs::Pair::other` meets its contract, by the search; written so that a wrong body is refused sooner. Assumes nothing.
use Rattle.std.proofs.Common.{rules}
use Rattle.region_pairs.proofs.Pair.other.Goals as goal

pub returns-else-self-r : goal.returns-else-self-r
returns-else-self-r c = search rules

pub returns-then-self-r : goal.returns-then-self-r
returns-then-self-r c = search rules
