-- `junction_proposals::proposals::find_bridges` meets its contract. The loop's invariant: behind the unions stand the bridges of the regions up to k. Assumes nothing.
use Prim.Native.Nat.{◌+◌, ◌≤◌}
use mathlib.Core.Path.{◌≡◌}
use mathlib.Core.List.{◌++◌}
use lib.ListN.{length}
use Rattle.definitions.specs.Scan.{collect}
use Rattle.junction_proposals.specs.Rows.{rows_of}
use Rattle.junction_proposals.proofs.Counting.{bridges}
use Rattle.junction_proposals.proofs.proposals.find_bridges.Given as goal

abbrev pub invariant-loop-k : goal.invariant-loop-k
invariant-loop-k l =
    (l.k ≤ l.lists.regions) × (l.list.rows.ghost_name ≡ l.initial.list.rows.ghost_name) × (length l.list.rows.now ≡ length l.initial.list.rows.now)
    × (l.list.count ≡ l.initial.list.count + length (collect l.k (bridges l.lists.boundaries.now l.lists.full.now l.lists.marks.now l.lists.counts.now l.lists.count)))
    × (rows_of l.list.rows.now l.list.count
    ≡ rows_of l.initial.list.rows.now l.initial.list.count ++ collect l.k (bridges l.lists.boundaries.now l.lists.full.now l.lists.marks.now l.lists.counts.now l.lists.count))
