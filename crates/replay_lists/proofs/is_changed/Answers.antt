-- `replay_lists::is_changed` meets its contract, by the search; written so that a wrong body is refused sooner. Assumes nothing.
use Rattle.std.proofs.Common.{arith}
use Rattle.std.proofs.lemmas.Grind.{common_steps}
use Rattle.replay_lists.proofs.is_changed.Goals as goal

pub returns : goal.returns
returns c = grind (arith, common_steps)
