-- `replay_lists::length_within` meets its contract, by the search; written so that a wrong body is refused sooner. Assumes nothing.
use Rattle.std.proofs.Common.{rules}
use Rattle.replay_lists.proofs.length_within.Goals as goal

pub returns : goal.returns
returns c = search rules
