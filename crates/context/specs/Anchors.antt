-- The words of the contract of `mark_anchored`: the labels of the anchors' cells are marked, one after the other. Definitions only; assumes nothing.
use Rattle.std.specs.Prelude.{ℕ, ◌+◌, ◌-◌, ◌*◌, ◌/◌, ◌≤◌, ◌<◌, cond, List, [], ◌∷◌, map, length, get_or, set, eqb}
use Rattle.definitions.specs.Limits.{max_side, numbers_per_anchor}
use Rattle.definitions.specs.Scan.{run}

-- ---- what the code does

-- the cell of anchor i, as `map_of` has it
abbrev pub anchor_cell : ℕ → List ℕ → ℕ → ℕ
anchor_cell w anchors i = get_or anchors (numbers_per_anchor * i + 1) 0 * w + get_or anchors (numbers_per_anchor * i) 0

-- the cells of the first n anchors
unfoldable pub anchor_cells : ℕ → List ℕ → ℕ → List ℕ
unfolding run
anchor_cells w anchors n = map (anchor_cell w anchors) (run 0 n)

-- a region's mark stands at its number less 1; no region has label 0
abbrev pub mark_label : List ℕ → ℕ → List ℕ
mark_label marks l = cond (eqb l 0) marks (set marks (l - 1) 1)

unfoldable pub mark_cells : List ℕ → List ℕ → List ℕ → List ℕ
mark_cells ls marks [] = marks
mark_cells ls marks (c ∷ cs) = mark_cells ls (mark_label marks (get_or ls c 0)) cs

-- ---- what it asks: anchors within the limits, on cells that have a label of at most n

pub record AnchorsFit (w : ℕ) (ls anchors : List ℕ) (n : ℕ) : Type 0 where
  pub narrow : w ≤ max_side
  pub column : (i : ℕ) → i < length anchors / numbers_per_anchor → get_or anchors (numbers_per_anchor * i) 0 < max_side
  pub row : (i : ℕ) → i < length anchors / numbers_per_anchor → get_or anchors (numbers_per_anchor * i + 1) 0 < max_side
  pub cell : (i : ℕ) → i < length anchors / numbers_per_anchor → anchor_cell w anchors i < length ls
  pub label : (i : ℕ) → i < length anchors / numbers_per_anchor → get_or ls (anchor_cell w anchors i) 0 ≤ n
