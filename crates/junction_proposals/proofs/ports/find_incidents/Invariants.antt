-- `junction_proposals::ports::find_incidents` meets its contract. The loop's invariant: the first n entries are the boundaries below j that name a region of the union. Assumes nothing.
use Prim.Native.Nat.{◌≤◌}
use mathlib.Core.Path.{◌≡◌}
use lib.ListN.{length}
use Rattle.context.specs.Rows.{pair_form}
use Rattle.junction_proposals.specs.Ports.{Listed}
use Rattle.junction_proposals.proofs.ports.find_incidents.Given as goal

abbrev pub invariant-loop-j : goal.invariant-loop-j
invariant-loop-j l =
    (l.j ≤ l.count) × ((length l.incidents ≡ 256) × Listed l.full l.j (pair_form l.union) l.incidents l.n)
