-- What `fill` reads: a map, its labels, and the chain of its stretches. Definitions only; assumes nothing.
use Rattle.std.specs.Prelude.{ℕ, ◌≤◌, ◌<◌, ◌≡◌, true, List, length, get_or}
use Rattle.definitions.specs.Limits.{is_side}
use Rattle.definitions.specs.Grid.{Map, cell_count, cell_at, elevation}
use Rattle.definitions.specs.Partition.{labels, walkable_at}
use Rattle.row_runs.specs.Contract.{Chain}

-- The lists show the map M: a byte for each cell, its labels, and the queue with the stretches from the first cell on. A walkable cell has an elevation from 0 to 3.
pub record Shown (M : Map) (w : ℕ) (bytes l q : List ℕ) : Type 0 where
  pub width : M.width ≡ w
  pub cells : M.cells ≡ bytes
  pub wide : is_side M.width ≡ true
  pub high : is_side M.height ≡ true
  pub bytes_long : length bytes ≡ cell_count M
  pub labels_long : cell_count M ≤ length l
  pub labels : (c : ℕ) → c < cell_count M → get_or l c 0 ≡ get_or (labels M) c 0
  pub queue_long_lem : cell_count M ≤ length q
  pub chain : Chain M q 0
  pub low : (c : ℕ) → c < cell_count M → walkable_at M c ≡ true → elevation (cell_at M c) < 4
