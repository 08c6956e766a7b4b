-- `rest_lists::kept::KeptLists::front` meets its contract: what is taken ends where the list does, at the latest. Assumes nothing.
use Prim.Native.Nat.{◌*◌}
use Rattle.std.proofs.Common.{rules}
use Rattle.std.proofs.lemmas.List.{take_min}
use Rattle.rest_lists.proofs.kept.KeptLists.front.Goals as goal

pub returns : goal.returns
returns c = rw (← take_min (9 * c.args.count) c.args.self.now.boundaries.now) (search rules)
