-- `sheet_converter::is_one_list` meets its contract. The loop's invariant: the first i spans are the endpoints of the first i boundaries. Assumes nothing.
use Prim.Native.Nat.{◌*◌}
use mathlib.Core.Path.{◌≡◌}
use lib.ListN.{take}
use Rattle.definitions.specs.Sheet.{endpoints_in}
use Rattle.sheet_converter.proofs.is_one_list.Given as goal

abbrev pub invariant-loop-i : goal.invariant-loop-i
invariant-loop-i l = endpoints_in l.i l.boundaries ≡ take (4 * l.i) l.spans
