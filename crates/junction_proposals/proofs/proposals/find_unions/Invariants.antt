-- `junction_proposals::proposals::find_unions` meets its contract. The loop's invariant: the rows are the unions at the boundaries below i. Assumes nothing.
use Prim.Native.Nat.{◌≤◌}
use mathlib.Core.Path.{◌≡◌}
use lib.ListN.{length}
use Rattle.definitions.specs.Scan.{collect}
use Rattle.junction_proposals.specs.Rows.{rows_of, union_in}
use Rattle.junction_proposals.proofs.proposals.find_unions.Given as goal

abbrev pub invariant-loop-i : goal.invariant-loop-i
invariant-loop-i l =
    (l.i ≤ l.lists.count) × (l.list.count ≤ l.i) × (l.list.rows.ghost_name ≡ l.initial.list.rows.ghost_name) × (length l.list.rows.now ≡ length l.initial.list.rows.now)
    × (rows_of l.list.rows.now l.list.count ≡ collect l.i (union_in l.lists))
