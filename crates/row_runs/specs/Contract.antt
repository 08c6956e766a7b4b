-- The words of the contract of `label_cells`. What is lent may be longer than the grid: what stands beyond is as it was. Definitions only; assumes nothing.
use Rattle.std.specs.Prelude.{ℕ, ◌+◌, ◌*◌, ◌/◌, ◌≤◌, ◌<◌, ◌≡◌, List, length, get_or, drop}
use Rattle.definitions.specs.Grid.{Map, cell_count}
use Rattle.definitions.specs.Lists.{overwrite}
use Rattle.definitions.specs.Partition.{cut_all_lem, labels, region_count}
use Rattle.grid_steps.specs.Masks.{OnwardMarks}

-- sides within the limits, a byte for each cell, and room for each cell
pub record Room (w h : ℕ) (cells masks l q : List ℕ) : Type 0 where
  pub narrow : w ≤ 1024
  pub short : h ≤ 1024
  pub cells_long : length cells ≡ h * w
  pub masks_long : h * w ≤ length masks
  pub labels_long : h * w ≤ length l
  pub queue_long_lem : h * w ≤ length q

-- M has these sides and cells, and the masks say of each step, at its smaller cell, whether the spans cut it. (Nothing else of M matters to labels.)
pub record OnwardCut (w h : ℕ) (bytes masks : List ℕ) (M : Map) : Type 0 where
  pub width : M.width ≡ w
  pub height : M.height ≡ h
  pub cells : M.cells ≡ bytes
  pub marks : OnwardMarks M masks (cut_all_lem M)

-- The cells from c to before e stand in one row and have one label; the queue has e at c.
pub record Link (M : Map) (q : List ℕ) (c e : ℕ) : Type 0 where
  pub next : get_or q c 0 ≡ e
  pub more : c < e
  pub inside : e ≤ cell_count M
  pub row : e ≤ (c / M.width + 1) * M.width
  pub alike : (d : ℕ) → c ≤ d → d < e → get_or (labels M) d 0 ≡ get_or (labels M) c 0

-- links from c to behind the last cell
pub data Chain (M : Map) (q : List ℕ) : ℕ → Type 0 where
  ended : Chain M q (cell_count M)
  linked : {c e : ℕ} → Link M q c e → Chain M q e → Chain M q c

-- labels l and queue q at exit, where they were `was` and `waited`, and the result r
pub record Labelled (M : Map) (was waited l q : List ℕ) (r : ℕ) : Type 0 where
  pub labels : l ≡ overwrite (labels M) was
  pub count : r ≡ region_count M
  pub chain : Chain M q 0
  pub beyond : drop (cell_count M) q ≡ drop (cell_count M) waited
