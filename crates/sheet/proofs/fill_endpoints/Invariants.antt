-- `sheet::fill_endpoints` meets its contract. The loop's invariant: the endpoints of the first i boundaries are stored, and nothing else. Assumes nothing.
use Prim.Native.Nat.{◌≤◌}
use mathlib.Core.Path.{◌≡◌}
use lib.ListN.{length}
use Rattle.definitions.specs.Lists.{overwrite}
use Rattle.definitions.specs.Sheet.{endpoints_in}
use Rattle.sheet.proofs.fill_endpoints.Given as goal

abbrev pub invariant-loop-i : goal.invariant-loop-i
invariant-loop-i l =
    (l.i ≤ l.count) × (length l.spans ≡ length l.initial.spans) × (l.spans ≡ overwrite (endpoints_in l.i l.boundaries) l.initial.spans)
