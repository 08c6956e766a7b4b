-- The words of the contracts of the walk along a span: what it has counted and collected. Definitions only; assumes nothing.
use Rattle.std.specs.Prelude.{ℕ, ◌*◌, ◌≤◌, ◌<◌, ◌≡◌, true, cond, List, [], ◌∷◌, ◌++◌, length}
use Rattle.definitions.specs.Limits.{max_side, numbers_per_pair}
use Rattle.definitions.specs.Scan.{filter}
use Rattle.definitions.specs.Grid.{Position, at, Pair, toward, edge}
use Rattle.definitions.specs.Partition.{is_separated, pairs_of}
use Rattle.grid_steps.specs.Masks.{bit_of}
use Rattle.grid_steps.specs.Walk.{grid_of}
use Rattle.grid_steps.specs.Inner.{Inside}
use Rattle.cut_steps.specs.CutSteps.{is_set}
use Rattle.cut_steps.specs.Walks.{max_cells}
use Rattle.laws.specs.RegionLaws.PairRows.{rows_for}
use Rattle.assessments.specs.Held.{Held, Counted}
use Rattle.assessments.specs.declared.BoundaryAssessment.{BoundaryAssessment}

-- ---- how much there can be

-- no cell has more than eight steps
abbrev pub max_cell_edges : ℕ
max_cell_edges = 8

abbrev pub max_edges : ℕ
max_edges = max_cell_edges * max_cells

-- the counts so far are at most so much, and the rows of the span begin at `first`
pub record Counting (pairs : List ℕ) (first most : ℕ) (a : BoundaryAssessment) : Type 0 where
  pub rows : Counted pairs first a.end
  pub fewer : a.separated ≤ a.removed
  pub few : a.removed ≤ most

-- ---- what is counted and collected

-- The steps es of the span are assessed: they are counted, and `old` as lent holds the rows `before` and behind them, from row `first` on, those of the pairs.
pub record Gathered (labels : List ℕ) (span first : ℕ) (before old : List ℕ) (es : List Pair) (a : BoundaryAssessment) (now : List ℕ) : Type 0 where
  pub removed : a.removed ≡ length es
  pub separated : a.separated ≡ length (filter (is_separated labels) es)
  pub begins : length before ≤ length old → numbers_per_pair * first ≡ length before
  pub held : Held (before ++ rows_for span (pairs_of labels es)) old now a.end

-- of a span whose rows begin at `first`, before its walk
abbrev pub nothing : ℕ → BoundaryAssessment
nothing first = record { removed = 0; separated = 0; end = first; row = first }

-- the steps es are assessed behind those that were before
pub record Assesses (labels : List ℕ) (span first : ℕ) (es : List Pair) (a : BoundaryAssessment) (now : List ℕ) (a' : BoundaryAssessment) (now' : List ℕ) : Type 0 where
  pub each :
      (before old : List ℕ) (es₀ : List Pair) → Gathered labels span first before old es₀ a now → Gathered labels span first before old (es₀ ++ es) a' now'

-- ---- the steps of a cell

-- the step from (x, y) in direction d, if the mask has it
unfoldable pub step_in_lem : (w x y mask : ℕ) → Position → List Pair
step_in_lem w x y mask d = cond (is_set mask (bit_of d)) (edge (grid_of w 0 []) (at x y) (toward (at x y) d) ∷ []) []

-- every direction of the mask leads to a cell of the grid
pub record Leads (w h x y mask : ℕ) : Type 0 where
  pub narrow : w ≤ max_side
  pub short : h ≤ max_side
  pub in_x : x < w
  pub in_y : y < h
  pub lands : (d : Position) → d.x ≤ 2 → d.y ≤ 2 → is_set mask (bit_of d) ≡ true → Inside w h x y d.x d.y
