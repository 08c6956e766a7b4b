-- What the walk over a span asks of its parts: a cell of the grid, the cells of a column, or row, the four between the span's ends, and the parts, each joined to what
-- they are a part of, and no more of them than there is room for. Assumes nothing.
use Prim.Native.Nat.{ℕ, suc, ◌+◌, ◌-◌, ◌*◌, ◌≤◌, ◌<◌}
use native.Mathlib.Omega.{arith}
use native.Mathlib.Nat.{mul-le-mul_left}
use mathlib.Core.Path.{◌≡◌, sym, ap, ◌∙◌}
use mathlib.Core.Logic.{⊎_elim}
use mathlib.Core.List.{List}
use Rattle.definitions.specs.Limits.{max_side}
use Rattle.definitions.specs.Scan.{concat_map, run}
use Rattle.definitions.specs.Grid.{Map, Segment}
use Rattle.definitions.specs.Spans.{range_inclusive}
use Rattle.laws.specs.NumberLaws.Comparisons.{le_or_lt}
use Rattle.span_geometry.specs.declared.SpanGeometry.{SpanGeometry}
use Rattle.span_geometry.specs.declared.strips.CandidateRange.{CandidateRange}
use Rattle.span_geometry.specs.declared.strips.Strip.{Strip}
use Rattle.span_geometry.specs.Candidates.{minor_side}
use Rattle.grid_steps.specs.declared.grid.TerrainGrid.{TerrainGrid}
use Rattle.grid_steps.specs.Walk.{grid_of}
use Rattle.cut_steps.specs.Prefixes.{up_to}
use Rattle.cut_steps.specs.Cell.{CellAsked}
use Rattle.cut_steps.specs.Columns.{ColumnAsked, Near, cut_across, cut_column, column-joined}
use Rattle.cut_steps.specs.Crossed.{FollowsIn, cut_two_back, Parted}
use Rattle.cut_steps.specs.Walks.{GridSound, max_cells}
use Rattle.cut_steps.proofs.Across.{column-crossed}
use Rattle.cut_steps.proofs.SpanParts.{side-small}
use Rattle.cut_steps.proofs.Trimmed.{four-passed}

pub cell_of_column : {grid : TerrainGrid} {g : SpanGeometry} {x y : ℕ} → GridSound grid g → x < grid.width → y < grid.height → CellAsked grid.width grid.height grid.cells.now g x y
cell_of_column G a b = record { narrow = G.narrow; short = G.short; cells_long = G.cells_long; sound = G.sound; in_x = a; in_y = b }

-- ---- a column, or row

pub range-joined :
    (M : Map) (g : Segment) (t : Strip) (k : ℕ) {r : CandidateRange} {limit : ℕ} → limit ≡ minor_side t M.width M.height → Near g t k limit r
    → cut_column M g t k ≡ concat_map (cut_across M g t.columns k) (up_to r.first (r.last + 1))
unfolding range_inclusive
range-joined M g t k {r} e N =
    let n : suc r.last - r.first ≡ r.last + 1 - r.first = omega arith in
    sym (column-joined M g t k e N) ∙ ap (λ n. concat_map (cut_across M g t.columns k) (run r.first n)) n

pub range-few : (t : Strip) (first last : ℕ) {w h limit : ℕ} → w ≤ max_side → h ≤ max_side → limit ≡ minor_side t w h → last < limit → 1 * (last + 1 - first) ≤ max_side
range-few t first last a b e l = omega (arith, e, side-small t.columns b a)

-- ---- the four cells of a column, or row, between the span's ends

pub four-joined :
    (w h : ℕ) (cells : List ℕ) {t : Strip} (g : Segment) {k before here after : ℕ} → ColumnAsked w h t k → FollowsIn t g k before here after
    → cut_column (grid_of w h cells) g t k ≡ concat_map (cut_two_back (grid_of w h cells) g t k) (up_to here (here + 4))
four-joined w h cells {t} g {k} {here = here} C F = sym (four-passed (cut_two_back (grid_of w h cells) g t k) here ∙ column-crossed w h cells g C F)

-- ---- the parts

-- the columns, or rows, near a span are so many at most
pub parts-few : {t : Strip} {limit first from to end : ℕ} → Parted t limit first from to end → limit ≤ max_side → max_side * (end - first) ≤ max_cells
parts-few {limit = limit} {first} {end = end} P l = mul-le-mul_left max_side few
  where
    few : end - first ≤ max_side
    few = ⊎_elim (λ h. omega arith) (λ h. let b = P.below (end - 1) (omega arith) (omega arith) in omega (arith, b)) (le_or_lt end first)
