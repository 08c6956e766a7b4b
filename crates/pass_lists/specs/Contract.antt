-- The words of the contracts of `view` and of what it is given. Definitions only; assumes nothing.
use Rattle.std.specs.Prelude.{ℕ, ◌+◌, ◌-◌, ◌*◌, ◌/◌, ◌≤◌, ◌<◌, ◌≡◌, List, length, get_or, Option}
use Rattle.definitions.specs.Limits.{max_side, numbers_per_anchor}
use Rattle.definitions.specs.Grid.{Map, cell_count}
use Rattle.definitions.specs.Partition.{region_count}
use Rattle.definitions.specs.Partition as partition
use Rattle.definitions.specs.Context.{Context, context_of}
use Rattle.laws.specs.ListLaws.Beyond.{Beyond}
use Rattle.region_pairs.specs.declared.Pair.{Pair}
use Rattle.pass_lists.specs.declared.SpanPartition.{SpanPartition}
use Rattle.context.specs.Anchors.{anchor_cell, anchor_cells}
use Rattle.context.specs.Rows.{PairRows}
use Rattle.context.specs.Shown.{ShownTallies, ShownPairs, ShownFullPairs, ShownAnchored, ShownIncidents}

-- The lists are those of map M as the partition left them: its labels, tallies and rows of pairs, and its anchors as lent. Masks and queue, of these lengths,
-- have room for each cell.
pub record Partitioned (M : Map) (w needed : ℕ) (labels anchors : List ℕ) (regions rows count : ℕ) (tallies pairs : List ℕ) (masks queue : ℕ) : Type 0 where
  pub narrow : w ≤ max_side
  pub cells : needed ≡ cell_count M
  pub labels_long : cell_count M ≤ length labels
  pub labelled : (c : ℕ) → c < cell_count M → get_or labels c 0 ≡ get_or (partition.labels M) c 0
  pub anchored : M.anchors ≡ anchor_cells w anchors (length anchors / numbers_per_anchor)
  pub column : (i : ℕ) → i < length anchors / numbers_per_anchor → get_or anchors (numbers_per_anchor * i) 0 < max_side
  pub row : (i : ℕ) → i < length anchors / numbers_per_anchor → get_or anchors (numbers_per_anchor * i + 1) 0 < max_side
  pub on_grid : (i : ℕ) → i < length anchors / numbers_per_anchor → anchor_cell w anchors i < cell_count M
  pub regions_are : regions ≡ region_count M
  pub tallied : ShownTallies (context_of M) tallies
  pub paired : PairRows (context_of M) pairs rows count
  pub masks_long : cell_count M ≤ masks
  pub queue_long_lem : cell_count M ≤ queue

-- the same of a struct of them
abbrev pub ShowsMap : Map → SpanPartition → ℕ → ℕ → Type 0
ShowsMap M x masks queue = Partitioned M x.width x.needed x.labels.now x.anchors.now x.regions x.rows x.count x.tallies.now x.pairs.now masks queue

-- a region's mark says no more than that it is anchored
abbrev pub FreshMarks : Context → List ℕ → Type 0
FreshMarks C marks = (r : ℕ) → 1 ≤ r → r ≤ C.regions → get_or marks (r - 1) 0 < 2

-- the context of M as lists: masks m and queue q have become m' and q', which are as they were beyond the needed length
pub record Viewed (M : Map) (needed : ℕ) (pairs m q m' q' starts : List ℕ) (full : List (Option Pair)) : Type 0 where
  pub shown_pairs : ShownPairs (context_of M) pairs starts
  pub shown_full : ShownFullPairs (context_of M) full
  pub shown_anchored : ShownAnchored (context_of M) m'
  pub fresh : FreshMarks (context_of M) m'
  pub shown_incidents : ShownIncidents (context_of M) q'
  pub masks : Beyond needed m m'
  pub queue : Beyond needed q q'
