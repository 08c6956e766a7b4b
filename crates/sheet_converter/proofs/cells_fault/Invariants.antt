-- `sheet_converter::cells_fault` meets its contract. The loop's invariant: the cells from i on stand from here on (`Walking`), and none before them is faulty. What was
-- judged is not refused. Assumes nothing.
use Prim.Native.Nat.{ℕ}
use mathlib.Core.Path.{◌≡◌}
use mathlib.Core.Bool.{Bool, not, ◌&&◌}
use Rattle.std.specs.Prelude.{None}
use mathlib.Core.List.{List}
use lib.Dec.{leb}
use lib.ListN.{get_or}
use Rattle.definitions.specs.Grid.{is_walkable, elevation}
use Rattle.definitions.specs.Refusals.{first_faulty}
use Rattle.definitions.specs.Sheet.{cell}
use Rattle.sheet.specs.Numbers.{values_at}
use Rattle.sheet_converter.proofs.Walking.{Walking}
use Rattle.sheet_converter.proofs.cells_fault.Given as goal

abbrev pub fitting : ℕ → Bool
fitting c = not (is_walkable c && leb 4 (elevation c))

abbrev pub fits : List ℕ → ℕ → Bool
fits cells i = fitting (get_or cells i 0)

abbrev pub invariant-loop-i : goal.invariant-loop-i
invariant-loop-i l =
    Walking l.bytes l.at l.count l.next l.i × (first_faulty l.i (fits (values_at cell l.bytes l.at l.count)) ≡ None)
