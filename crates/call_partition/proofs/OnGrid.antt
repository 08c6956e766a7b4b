-- What is divided on a grid is divided on one that is equal to it. Assumes nothing.
use Prim.Native.Nat.{ℕ}
use mathlib.Core.Path.{◌≡◌, subst}
use mathlib.Core.List.{List}
use Rattle.std.specs.Prelude.{Result}
use Rattle.grid_steps.specs.declared.grid.TerrainGrid.{TerrainGrid}
use Rattle.refusals.specs.declared.Refusal.{Refusal}
use Rattle.areas.specs.declared.lists.PartitionLists.{PartitionLists}
use Rattle.areas.specs.Lists.{of_lists}
use Rattle.call_partition.specs.declared.Ready.{Ready}
use Rattle.call_partition.specs.Prepared.{DividedAs}

pub divided_on : {g : TerrainGrid} (h : TerrainGrid) (spans : List ℕ) (room : ℕ) (was now : PartitionLists) (r : Result Ready Refusal) → g ≡ h
    → of_lists (of_lists (DividedAs g.width g.height g.cells.now spans room) was r) now
    → of_lists (of_lists (DividedAs h.width h.height h.cells.now spans room) was r) now
divided_on h spans room was now r e divided =
    subst (λ (g : TerrainGrid). of_lists (of_lists (DividedAs g.width g.height g.cells.now spans room) was r) now) e divided
