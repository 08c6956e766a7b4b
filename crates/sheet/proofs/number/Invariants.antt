-- `sheet::number` meets its contract. The loop's invariant: the groups read so far have the value so far, below 2 ^ (7 * group), and reading on from here
-- gives what the number is. Assumes nothing.
use Prim.Native.Nat.{◌+◌}
use Rattle.sheet.proofs.Groups.{Groups}
use Rattle.sheet.proofs.number.Given as goal

abbrev pub invariant-loop-group : goal.invariant-loop-group
invariant-loop-group l = Groups l.bytes l.at l.value l.scale l.group (l.at + l.group)
