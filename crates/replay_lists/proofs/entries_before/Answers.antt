-- `entries_before` meets its contract: entry i is what the call at i gave. Assumes nothing.
use Rattle.std.proofs.Common.{rules}
use Rattle.replay_lists.proofs.entries_before.Goals as goal

pub returns : goal.returns
returns g c = λ i e h. let k = (c.from_fn.ensures.items.at i e h).2 in search rules
