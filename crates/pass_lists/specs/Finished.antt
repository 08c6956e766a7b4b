-- The words of the contract of `finish`, and what the marks of removed boundaries say. Definitions only; assumes nothing.
use Rattle.std.specs.Prelude.{ℕ, ◌*◌, ◌≤◌, ◌<◌, ◌≡◌, Bool, false, List, length, get_or}
use Rattle.definitions.specs.Limits.{max_entries, numbers_per_boundary, numbers_per_row}
use Rattle.definitions.specs.Scan.{member}
use Rattle.definitions.specs.Lists.{overwrite, zeroed}
use Rattle.definitions.specs.Grid.{Map}
use Rattle.definitions.specs.Context.{Context}
use Rattle.definitions.specs.Rows.{removed_by, removed_of, flat_rows}
use Rattle.rows.specs.Contract.{kept_rows}

-- what is lent: masks, queue and output of these lengths
pub record Finishes (needed count : ℕ) (boundaries : List ℕ) (masks queue output : ℕ) : Type 0 where
  pub masks_long : needed ≤ masks
  pub queue_long_lem : needed ≤ queue
  pub few : count ≤ max_entries
  pub boundaries_long : numbers_per_boundary * count ≤ length boundaries
  pub output_long : numbers_per_row * count ≤ output

-- masks m, queue q and output o have become m', q' and o'; r is how many rows there are
pub record Finished (needed count : ℕ) (boundaries : List ℕ) (removed : List Bool) (m q o m' q' o' : List ℕ) (r : ℕ) : Type 0 where
  pub masks : m' ≡ zeroed needed m
  pub queue : q' ≡ zeroed needed q
  pub output : o' ≡ overwrite (flat_rows (kept_rows boundaries count removed)) o
  pub rows : r ≡ length (kept_rows boundaries count removed)

-- ---- the marks

-- a pass over a context has marked exactly the boundaries that it removes
abbrev pub MarkedBy : ℕ → Context → List Bool → Type 0
MarkedBy pass C removed = (i : ℕ) → i < C.count → get_or removed i false ≡ member i (removed_by pass C)

-- the marks are those of the boundaries that the pass removes of a map: none, where spans and boundaries differ in number
abbrev pub Marked : ℕ → Map → List Bool → Type 0
Marked pass M removed = (i : ℕ) → i < length M.boundaries → get_or removed i false ≡ member i (removed_of pass M)
