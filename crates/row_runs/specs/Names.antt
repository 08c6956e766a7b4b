-- Names of cells while rows are joined: the words of the contracts. Definitions only; assumes nothing.
use Rattle.std.specs.Prelude.{ℕ, ◌+◌, ◌≤◌, ◌<◌, ◌≡◌, Bool, true, false, cond, List, length, get_or, drop}
use Rattle.grid_steps.specs.Masks.{cut_bit}
use Rattle.parents.specs.Forest.{Forest, Left}
use Rattle.row_runs.specs.Stretch.{walks, Clear, Stretch}

-- the numbers from `from` on are their own parents
abbrev pub Fresh : ℕ → ℕ → List ℕ → Type 0
Fresh n from p = (c : ℕ) → from ≤ c → c < n → get_or p c 0 ≡ c

-- some names make p parents, with the cells from `from` up to `end` alone
pub record RunAsked (p : List ℕ) (from end : ℕ) : Type 0 where
  pub n : ℕ
  pub name : ℕ → ℕ
  pub forest : Forest n name p
  pub fresh : Fresh n from p
  pub low : from ≤ end
  pub ends : end ≤ n

-- The cells from `from` up to `end` are named after the first of them, all others as before.
pub record RunPut (n : ℕ) (name : ℕ → ℕ) (from end : ℕ) (was p : List ℕ) : Type 0 where
  pub after : ℕ → ℕ
  pub left : Left n after was p
  pub inside : (c : ℕ) → from ≤ c → c < end → after c ≡ from
  pub before : (c : ℕ) → c < from → after c ≡ name c
  pub behind : (c : ℕ) → end ≤ c → after c ≡ name c
  pub fresh : Fresh n end p

-- ---- a stretch

pub record PutAsked (cells p : List ℕ) (from end : ℕ) : Type 0 where
  pub cells_long : from < length cells
  pub run : RunAsked p from end

-- of a gap each cell has itself as its name
pub record StretchPut (cells : List ℕ) (n : ℕ) (name : ℕ → ℕ) (from end : ℕ) (was p : List ℕ) : Type 0 where
  pub after : ℕ → ℕ
  pub left : Left n after was p
  pub inside : (c : ℕ) → from ≤ c → c < end → after c ≡ cond (walks cells from) from c
  pub before : (c : ℕ) → c < from → after c ≡ name c
  pub fresh : Fresh n end p

-- ---- a row

-- Stretches from `from` to `to` of a row that ends at `end`: the queue has the end of each at its first cell.
pub data Tiles (cells masks : List ℕ) (end : ℕ) (q : List ℕ) : ℕ → ℕ → Type 0 where
  none : {c : ℕ} → Tiles cells masks end q c c
  more : {from e to : ℕ} → Stretch cells masks end from e → get_or q from 0 ≡ e → Tiles cells masks end q e to → Tiles cells masks end q from to

-- g says the same at both ends of every uncut step to the east from `from` up to `to`
abbrev pub EastLevel : {X : Type 0} → List ℕ → List ℕ → ℕ → ℕ → (ℕ → X) → Type 0
EastLevel cells masks from to g = (c : ℕ) → from ≤ c → c + 1 < to → walks cells c ≡ true → walks cells (c + 1) ≡ true → cut_bit masks c 5 ≡ false → g (c + 1) ≡ g c

-- Names of the row's cells from `from` up to `to`: the two cells of an uncut step to the east have one name, and what says the same at both ends of every
-- such step says the same of a cell and its name.
pub record RowNamed (cells masks : List ℕ) (after : ℕ → ℕ) (from to : ℕ) : Type 0 where
  pub joins : EastLevel cells masks from to after
  pub sound : (g : ℕ → Bool) → EastLevel cells masks from to g → (c : ℕ) → from ≤ c → c < to → g (after c) ≡ g c

-- parents and queue as they were lent
pub record ScanAsked (cells masks p q : List ℕ) (from end : ℕ) (marked : Bool) : Type 0 where
  pub cells_long : end ≤ length cells
  pub masks_long : end ≤ length masks
  pub queue_long_lem : end ≤ length q
  pub clear : marked ≡ false → Clear masks from end
  pub run : RunAsked p from end

-- what is left of parents and queue, of which only the row's entries are written
pub record RowScanned (cells masks : List ℕ) (n : ℕ) (name : ℕ → ℕ) (from end : ℕ) (was waited p q : List ℕ) : Type 0 where
  pub after : ℕ → ℕ
  pub left : Left n after was p
  pub named : RowNamed cells masks after from end
  pub before : (c : ℕ) → c < from → after c ≡ name c
  pub fresh : Fresh n end p
  pub tiles : Tiles cells masks end q from end
  pub queue_long_lem : length q ≡ length waited
  pub earlier : (c : ℕ) → c < from → get_or q c 0 ≡ get_or waited c 0
  pub beyond : drop end q ≡ drop end waited
