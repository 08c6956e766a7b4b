-- `hold_before` meets its contract. The invariant: the first i entries are filled. Assumes nothing.
use Rattle.std.specs.Prelude.{◌≡◌, length}
use Rattle.replay_lists.specs.Contract.{HeldBefore}
use Rattle.replay_lists.proofs.hold_before.Given as goal

abbrev pub invariant-loop-i : goal.invariant-loop-i
invariant-loop-i g l = (length l.list ≡ 4096) × HeldBefore g.T.From.from_gives l.i l.list
