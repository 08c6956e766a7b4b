-- Two rows joined by the steps to the south between them: the words of the contracts. Definitions only; assumes nothing.
use Rattle.std.specs.Prelude.{ℕ, ◌+◌, ◌≤◌, ◌<◌, ◌≡◌, Bool, true, false, List, length}
use Rattle.grid_steps.specs.Masks.{cut_bit}
use Rattle.parents.specs.Forest.{Forest, joined_name, Left}
use Rattle.row_runs.specs.Stretch.{walks}
use Rattle.row_runs.specs.Names.{Tiles, EastLevel}

-- g says the same at both ends of every uncut step to the south from the cells from `from` up to `to`, in rows of w cells
abbrev pub SouthLevel : {X : Type 0} → ℕ → List ℕ → List ℕ → ℕ → ℕ → (ℕ → X) → Type 0
SouthLevel w cells masks from to g =
    (c : ℕ) → from ≤ c → c < to → walks cells c ≡ true → walks cells (c + w) ≡ true → cut_bit masks c 7 ≡ false → g (c + w) ≡ g c

-- numbers of one name keep one name
abbrev pub Coarser : (ℕ → ℕ) → (ℕ → ℕ) → Type 0
Coarser name after = (c d : ℕ) → name c ≡ name d → after c ≡ after d

-- g says the same of a number and its name
abbrev pub Kept : ℕ → (ℕ → ℕ) → (ℕ → Bool) → Type 0
Kept n name g = (c : ℕ) → c < n → g (name c) ≡ g c

-- ---- an overlap

pub record OverlapAsked (w : ℕ) (cells masks p : List ℕ) (from end : ℕ) : Type 0 where
  pub more : from < end
  pub cells_long : end + w ≤ length cells
  pub masks_long : end ≤ length masks
  pub n : ℕ
  pub name : ℕ → ℕ
  pub forest : Forest n name p
  pub ends : end + w ≤ n

-- not both begin walkable; or every step between is cut; or the two cells of an uncut one are joined
pub data OverlapJoined (w : ℕ) (cells masks : List ℕ) (n : ℕ) (name : ℕ → ℕ) (from end : ℕ) (was : List ℕ) : List ℕ → Type 0 where
  apart : (walks cells from ≡ true → walks cells (from + w) ≡ true → ⊥) → OverlapJoined w cells masks n name from end was was
  cut : ((c : ℕ) → from ≤ c → c < end → cut_bit masks c 7 ≡ true) → OverlapJoined w cells masks n name from end was was
  one : {p : List ℕ} (c : ℕ) → from ≤ c → c < end → walks cells from ≡ true → walks cells (from + w) ≡ true → cut_bit masks c 7 ≡ false → Left n (joined_name name c (c + w)) was p → OverlapJoined w cells masks n name from end was p

-- ---- two rows

-- both rows are tiled by stretches, whose cells have one name
pub record RowsAsked (w : ℕ) (cells masks p q : List ℕ) (up : ℕ) : Type 0 where
  pub cells_long : up + w + w ≤ length cells
  pub masks_long : up + w ≤ length masks
  pub queue_long_lem : up + w + w ≤ length q
  pub upper : Tiles cells masks (up + w) q up (up + w)
  pub lower : Tiles cells masks (up + w + w) q (up + w) (up + w + w)
  pub n : ℕ
  pub name : ℕ → ℕ
  pub forest : Forest n name p
  pub ends : up + w + w ≤ n
  pub east_upper : EastLevel cells masks up (up + w) name
  pub east_lower : EastLevel cells masks (up + w) (up + w + w) name

-- The cells of every uncut step between the rows have one name, and what says the same at both ends of each says the same of a cell and its name, if it did.
pub record RowsJoined (w : ℕ) (cells masks : List ℕ) (n : ℕ) (name : ℕ → ℕ) (up : ℕ) (was p : List ℕ) : Type 0 where
  pub after : ℕ → ℕ
  pub left : Left n after was p
  pub coarser : Coarser name after
  pub joins : SouthLevel w cells masks up (up + w) after
  pub sound : (g : ℕ → Bool) → SouthLevel w cells masks up (up + w) g → Kept n name g → Kept n after g
