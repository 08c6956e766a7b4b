-- Two rows joined by the diagonal steps between them: the words of the contracts. Definitions only; assumes nothing.
use Rattle.std.specs.Prelude.{ℕ, ◌+◌, ◌≤◌, ◌<◌, ◌≡◌, Bool, true, false, ◌&&◌, List, length, get_or}
use Rattle.grid_steps.specs.Masks.{cut_bit}
use Rattle.parents.specs.Forest.{Forest, joined_name, Left}
use Rattle.row_runs.specs.Stretch.{walks}
use Rattle.row_runs.specs.Names.{EastLevel}
use Rattle.row_runs.specs.South.{SouthLevel, Coarser, Kept}

-- the four cells of the square whose upper left is c are walkable, in rows of w cells
unfoldable pub is_square : ℕ → List ℕ → ℕ → Bool
is_square w cells c = walks cells c && walks cells (c + 1) && walks cells (c + w) && walks cells (c + w + 1)

-- g says the same at both ends of the uncut diagonal steps of the square
pub record CornerLevel {X : Type 0} (w : ℕ) (cells masks : List ℕ) (g : ℕ → X) (c : ℕ) : Type 0 where
  pub south_east_lem : is_square w cells c ≡ true → cut_bit masks c 8 ≡ false → g (c + w + 1) ≡ g c
  pub south_west_lem : is_square w cells c ≡ true → cut_bit masks (c + 1) 6 ≡ false → g (c + w) ≡ g (c + 1)

-- ---- one step

pub record StepAsked (masks p : List ℕ) (a k b : ℕ) : Type 0 where
  pub masks_long : a < length masks
  pub bit : k < 9
  pub n : ℕ
  pub name : ℕ → ℕ
  pub forest : Forest n name p
  pub first : a < n
  pub second : b < n

pub data StepJoined (masks : List ℕ) (n : ℕ) (name : ℕ → ℕ) (a k b : ℕ) (was : List ℕ) : List ℕ → Type 0 where
  stays : cut_bit masks a k ≡ true → StepJoined masks n name a k b was was
  links : {p : List ℕ} → cut_bit masks a k ≡ false → Left n (joined_name name a b) was p → StepJoined masks n name a k b was p

-- ---- one square

pub record CornersAsked (w : ℕ) (cells masks p : List ℕ) (c : ℕ) : Type 0 where
  pub cells_long : c + w + 1 < length cells
  pub masks_long : c + 1 < length masks
  pub n : ℕ
  pub name : ℕ → ℕ
  pub forest : Forest n name p
  pub inside : c + w + 1 < n

-- Names with the square's uncut diagonals done, where those of a square without marks were. What says the same at both ends of them is kept.
pub record CornersJoined (w : ℕ) (cells masks : List ℕ) (n : ℕ) (name : ℕ → ℕ) (c : ℕ) (was p : List ℕ) : Type 0 where
  pub after : ℕ → ℕ
  pub left : Left n after was p
  pub coarser : Coarser name after
  pub joins : (get_or masks c 0 ≡ 0 → get_or masks (c + 1) 0 ≡ 0 → CornerLevel w cells masks name c) → CornerLevel w cells masks after c
  pub sound : (g : ℕ → Bool) → CornerLevel w cells masks g c → Kept n name g → Kept n after g

-- ---- squares of a row

abbrev pub CornersLevel : {X : Type 0} → ℕ → List ℕ → List ℕ → ℕ → ℕ → (ℕ → X) → Type 0
CornersLevel w cells masks from to g = (c : ℕ) → from ≤ c → c + 1 < to → CornerLevel w cells masks g c

pub record SquaresAsked (w : ℕ) (cells masks p : List ℕ) (to : ℕ) : Type 0 where
  pub cells_long : to + w ≤ length cells
  pub masks_long : to ≤ length masks
  pub n : ℕ
  pub name : ℕ → ℕ
  pub forest : Forest n name p
  pub ends : to + w ≤ n

-- Names with the uncut diagonals of all squares below the cells from `from` up to `to` done, where those of squares without marks were.
pub record SquaresJoined (w : ℕ) (cells masks : List ℕ) (n : ℕ) (name : ℕ → ℕ) (from to : ℕ) (was p : List ℕ) : Type 0 where
  pub after : ℕ → ℕ
  pub left : Left n after was p
  pub coarser : Coarser name after
  pub joins : (c : ℕ) → from ≤ c → c + 1 < to → (get_or masks c 0 ≡ 0 → get_or masks (c + 1) 0 ≡ 0 → CornerLevel w cells masks name c) → CornerLevel w cells masks after c
  pub sound : (g : ℕ → Bool) → CornersLevel w cells masks from to g → Kept n name g → Kept n after g

-- ---- two rows

pub record DiagonalsAsked (w : ℕ) (cells masks p : List ℕ) (up : ℕ) : Type 0 where
  pub cells_long : up + w + w ≤ length cells
  pub masks_long : up + w ≤ length masks
  pub n : ℕ
  pub name : ℕ → ℕ
  pub forest : Forest n name p
  pub ends : up + w + w ≤ n
  pub east : EastLevel cells masks up (up + w) name
  pub south : SouthLevel w cells masks up (up + w) name

pub record DiagonalsJoined (w : ℕ) (cells masks : List ℕ) (n : ℕ) (name : ℕ → ℕ) (up : ℕ) (was p : List ℕ) : Type 0 where
  pub after : ℕ → ℕ
  pub left : Left n after was p
  pub coarser : Coarser name after
  pub joins : CornersLevel w cells masks up (up + w) after
  pub sound : (g : ℕ → Bool) → CornersLevel w cells masks up (up + w) g → Kept n name g → Kept n after g
