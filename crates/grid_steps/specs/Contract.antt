-- Maps by their cut steps. Definitions only; assumes nothing.
use Rattle.std.specs.Prelude.{ℕ, ◌≡◌, List}
use Rattle.definitions.specs.Grid.{Map}
use Rattle.definitions.specs.Partition.{cut_all_lem}
use Rattle.grid_steps.specs.Masks.{OnwardBits}

-- M has these sides and cells, and the masks have the steps that its spans cut, each at its smaller cell. (Nothing else of M matters to labels.)
pub record CutMap (w h : ℕ) (bytes masks : List ℕ) (M : Map) : Type 0 where
  pub width : M.width ≡ w
  pub height : M.height ≡ h
  pub cells : M.cells ≡ bytes
  pub bits : OnwardBits M masks (cut_all_lem M)
