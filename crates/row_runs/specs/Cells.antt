-- All rows of a grid joined by the uncut steps within and between them: the words of the contracts. Definitions only; assumes nothing.
use Rattle.std.specs.Prelude.{ℕ, suc, ◌+◌, ◌*◌, ◌≤◌, ◌<◌, ◌≡◌, Bool, false, List, length, get_or, drop}
use Rattle.laws.specs.ListLaws.Beyond.{Beyond}
use Rattle.parents.specs.Forest.{Forest, Left}
use Rattle.row_runs.specs.Stretch.{Clear}
use Rattle.row_runs.specs.Names.{Fresh, Tiles, EastLevel}
use Rattle.row_runs.specs.South.{SouthLevel, Coarser, Kept, RowsAsked}
use Rattle.row_runs.specs.Corners.{CornersLevel}

-- g says the same at both ends of every uncut step of a grid of h rows of w cells
pub record Level {X : Type 0} (w h : ℕ) (cells masks : List ℕ) (g : ℕ → X) : Type 0 where
  pub east : (y : ℕ) → y < h → EastLevel cells masks (y * w) (y * w + w) g
  pub south : (y : ℕ) → suc y < h → SouthLevel w cells masks (y * w) (y * w + w) g
  pub corners : (y : ℕ) → suc y < h → CornersLevel w cells masks (y * w) (y * w + w) g

-- ---- two rows

-- a row without marks has no cut step
pub record PairAsked (w : ℕ) (cells masks p q : List ℕ) (up : ℕ) (marked : Bool) : Type 0 where
  pub rows : RowsAsked w cells masks p q up
  pub clear : marked ≡ false → Clear masks up (up + w)

-- all steps between the rows are done
pub record PairJoined (w : ℕ) (cells masks : List ℕ) (n : ℕ) (name : ℕ → ℕ) (up : ℕ) (was p : List ℕ) : Type 0 where
  pub after : ℕ → ℕ
  pub left : Left n after was p
  pub coarser : Coarser name after
  pub south : SouthLevel w cells masks up (up + w) after
  pub corners : CornersLevel w cells masks up (up + w) after
  pub sound : (g : ℕ → Bool) → SouthLevel w cells masks up (up + w) g → CornersLevel w cells masks up (up + w) g → Kept n name g → Kept n after g

-- ---- one row more

-- Of a grid of n cells the first y rows are joined, and the cells behind them are alone; without marks no step of the last of them is cut.
pub record Done (w n y : ℕ) (marked : Bool) (cells masks p q : List ℕ) : Type 0 where
  pub name : ℕ → ℕ
  pub forest : Forest n name p
  pub fresh : Fresh n (y * w) p
  pub joins : Level w y cells masks name
  pub sound : (g : ℕ → Bool) → Level w y cells masks g → Kept n name g
  pub tiles : (x : ℕ) → x < y → Tiles cells masks (x * w + w) q (x * w) (x * w + w)
  pub clear : marked ≡ false → (x : ℕ) → x + 1 ≡ y → Clear masks (x * w) (x * w + w)

pub record RowAsked (w : ℕ) (cells masks p q : List ℕ) (y : ℕ) (marked : Bool) : Type 0 where
  pub cells_long : y * w + w ≤ length cells
  pub masks_long : y * w + w ≤ length masks
  pub queue_long_lem : y * w + w ≤ length q
  pub n : ℕ
  pub ends : y * w + w ≤ n
  pub done : Done w n y marked cells masks p q

-- row y is done too; `marked` is of that row
pub record RowDone (w n y : ℕ) (marked : Bool) (cells masks was waited p q : List ℕ) : Type 0 where
  pub done : Done w n (y + 1) marked cells masks p q
  pub parents : Beyond n was p
  pub queue : Beyond n waited q

-- ---- all rows

-- each cell is its own parent, and there is room for every cell
pub record CellsAsked (w h : ℕ) (cells masks p q : List ℕ) : Type 0 where
  pub narrow : w ≤ 1024
  pub short : h ≤ 1024
  pub cells_long : h * w ≤ length cells
  pub masks_long : h * w ≤ length masks
  pub parents_long : h * w ≤ length p
  pub queue_long_lem : h * w ≤ length q
  pub fresh : (c : ℕ) → c < h * w → get_or p c 0 ≡ c

-- Parents of names that are the same at both ends of every uncut step, and what is the same at both ends of every such step says the same of a cell and its
-- name. The queue has the stretches of each row.
pub record CellsJoined (w h : ℕ) (cells masks was waited p q : List ℕ) : Type 0 where
  pub after : ℕ → ℕ
  pub left : Left (h * w) after was p
  pub joins : Level w h cells masks after
  pub sound : (g : ℕ → Bool) → Level w h cells masks g → Kept (h * w) after g
  pub tiles : (y : ℕ) → y < h → Tiles cells masks (y * w + w) q (y * w) (y * w + w)
  pub queue_long_lem : length q ≡ length waited
  pub beyond : drop (h * w) q ≡ drop (h * w) waited
