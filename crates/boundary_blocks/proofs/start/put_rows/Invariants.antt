-- `boundary_blocks::start::put_rows` meets its contract. The loop's invariant: the rows of the first k places are stored, and nothing else. Assumes nothing.
use Prim.Native.Nat.{◌-◌, ◌≤◌}
use mathlib.Core.Path.{◌≡◌}
use lib.ListN.{length}
use Rattle.definitions.specs.Rows.{flat_rows}
use Rattle.definitions.specs.Lists.{overwrite}
use Rattle.boundary_blocks.specs.Start.{rows_at}
use Rattle.boundary_blocks.proofs.start.put_rows.Given as goal

abbrev pub invariant-loop-k : goal.invariant-loop-k
invariant-loop-k l = (l.k ≤ l.kept) × (length l.output ≡ length l.initial.output) × (l.output ≡ overwrite (flat_rows (rows_at l.numbers l.spans l.k)) l.initial.output)

abbrev pub decreases-loop-k : goal.decreases-loop-k
decreases-loop-k l = l.kept - l.k
