-- Stretches of a row of cells: the words of the contracts. A stretch is of walkable cells, each joined to the next by an uncut step, or of cells that are not
-- walkable. Definitions only; assumes nothing.
use Rattle.std.specs.Prelude.{ℕ, ◌+◌, ◌-◌, ◌≤◌, ◌<◌, ◌≡◌, Bool, true, false, cond, not, ◌&&◌, List, length, get_or}
use Rattle.definitions.specs.Grid.{is_walkable}
use Rattle.grid_steps.specs.Masks.{cut_bit}

-- cell c is walkable
abbrev pub walks : List ℕ → ℕ → Bool
walks cells c = is_walkable (get_or cells c 0)

-- cell c is walkable or not, as the first argument says
abbrev pub walks_as : Bool → List ℕ → ℕ → Bool
walks_as walkable cells c = cond walkable (walks cells c) (not (walks cells c))

-- cell c is walkable, and the step to it from the west is not cut (bit 5 of the cell there)
unfoldable pub goes_on : List ℕ → List ℕ → ℕ → Bool
unfolding cut_bit
goes_on cells masks c = walks cells c && not (cut_bit masks (c - 1) 5)

-- no step from a cell from `from` up to `end` is cut
abbrev pub Clear : List ℕ → ℕ → ℕ → Type 0
Clear masks from end = (c : ℕ) → from ≤ c → c < end → get_or masks c 0 ≡ 0

-- r is the first place from `from` on of which f does not hold, or `end`
pub record Until (f : ℕ → Bool) (from end r : ℕ) : Type 0 where
  pub low : from ≤ r
  pub ends : r ≤ end
  pub all : (c : ℕ) → from ≤ c → c < r → f c ≡ true
  pub stop : r < end → f r ≡ false

-- The stretch of a row that ends at `end`, from its first cell `from` to before e. A run goes as far as it can.
pub record Stretch (cells masks : List ℕ) (end from e : ℕ) : Type 0 where
  pub more : from < e
  pub ends : e ≤ end
  pub alike : (c : ℕ) → from ≤ c → c < e → walks cells c ≡ walks cells from
  pub free : walks cells from ≡ true → (c : ℕ) → from ≤ c → c + 1 < e → cut_bit masks c 5 ≡ false
  pub last : walks cells from ≡ true → e < end → walks cells e ≡ true → cut_bit masks (e - 1) 5 ≡ true

-- a row without marks has no cut step
pub record StretchAsked (cells masks : List ℕ) (from end : ℕ) (marked : Bool) : Type 0 where
  pub more : from < end
  pub cells_long : end ≤ length cells
  pub masks_long : end ≤ length masks
  pub clear : marked ≡ false → Clear masks from end
