-- `replay_all` is safe and ends. The invariant: the buffer keeps its length, and a turn adds no more lines than the buffer has bytes, so the counts fit. Assumes nothing.
use mathlib.Core.Path.{◌≡◌}
use Prim.Native.Nat.{◌*◌, ◌-◌, ◌≤◌}
use lib.ListN.{length}
use Rattle.hypotenuse_replay.proofs.replay_all.Given as goal

abbrev pub invariant-loop : goal.invariant-loop
invariant-loop g l = (length l.buffer ≡ length l.initial.buffer) × (l.turn.held ≤ length l.buffer) × (l.turn.tally.lines ≤ 65536 * l.counter) × (l.counter ≤ 1048576)

abbrev pub decreases-loop : goal.decreases-loop
decreases-loop g l = 1048576 - l.counter
