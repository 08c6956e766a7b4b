-- `boundary_blocks::blocks::keep_blocks` meets its contract. The loop's invariant: the blocks that are left of the first k stand at the front, and all else is as it was. Assumes nothing.
use Prim.Native.Nat.{◌≤◌}
use mathlib.Core.Path.{◌≡◌}
use lib.ListN.{length}
use Rattle.definitions.specs.Lists.{overwrite}
use Rattle.boundary_blocks.specs.Blocks.{left_blocks, left_count}
use Rattle.boundary_blocks.proofs.blocks.keep_blocks.Given as goal

abbrev pub invariant-loop-k : goal.invariant-loop-k
invariant-loop-k l =
    (l.k ≤ l.count) × (length l.list ≡ length l.initial.list) × (l.list ≡ overwrite (left_blocks l.removed l.size l.initial.list l.k) l.initial.list) × (l.kept ≡ left_count l.removed l.k)
