-- The cut steps of a span's candidates as the code walks them: columns, or rows, along the major axis, and in each the cells across it. Joined in that order they are
-- the span's cut steps (`columns-joined`, `column-joined`). Assumes nothing.
use Rattle.std.specs.Prelude.{ℕ, ◌≤◌, ◌<◌, ◌≡◌, Bool, true, false, cond, List, map}
use Rattle.std.proofs.Common.{arith, sym, ap, ap₂, ◌∙◌}
use Rattle.definitions.specs.Limits.{max_side}
use Rattle.definitions.specs.Scan.{concat_map}
use Rattle.definitions.specs.Grid.{Map, at, Pair, Segment}
use Rattle.definitions.specs.Spans.{range_inclusive, candidate_axis_range, candidate_minor_range}
use Rattle.span_geometry.specs.declared.strips.CandidateRange.{CandidateRange}
use Rattle.span_geometry.specs.declared.strips.Strip.{Strip}
use Rattle.span_geometry.specs.Strips.{Usable, strip_of, line_of}
use Rattle.span_geometry.specs.Candidates.{cell_of, major_side, minor_side, candidates_by_strip}
use Rattle.cut_steps.specs.CutSteps.{cut_from, cut_span}
use Rattle.cut_steps.specs.Prefixes.{concat_map_lem, concat-concat}

-- the cut steps of the cell at m across column, or row, k
abbrev pub cut_across : Map → Segment → Bool → ℕ → ℕ → List Pair
cut_across M g columns k m = cut_from M g (cond columns (at k m) (at m k))

-- the cut steps of the candidates in column, or row, k
abbrev pub cut_column : Map → Segment → Strip → ℕ → List Pair
cut_column M g t k = concat_map (cut_from M g) (map (cell_of t k) (candidate_minor_range (line_of t k) (minor_side t M.width M.height)))

-- column, or row, k of a map that is not empty
pub record ColumnAsked (w h : ℕ) (t : Strip) (k : ℕ) : Type 0 where
  pub usable : Usable t
  pub column : k < major_side t w h
  pub some : 0 < minor_side t w h

-- the cells of a range are below the limit, and have all cut steps of the candidates in column, or row, k
pub record Near (g : Segment) (t : Strip) (k limit : ℕ) (r : CandidateRange) : Type 0 where
  pub inside : r.last < limit
  pub cut : (M : Map) → concat_map (cut_across M g t.columns k) (range_inclusive r.first r.last) ≡ concat_map (cut_across M g t.columns k) (candidate_minor_range (line_of t k) limit)

-- ---- a cell of a column

pub cell_in : (t : Bool) {w h k m x y : ℕ} → x ≡ cond t k m → y ≡ cond t m k → k < cond t w h → m < cond t h w → (x < w) × (y < h)
cell_in true e f a b = omega arith
cell_in false e f a b = omega arith

pub cell_at : (t : Bool) (k m : ℕ) {x y : ℕ} → x ≡ cond t k m → y ≡ cond t m k → at x y ≡ cond t (at k m) (at m k)
cell_at true k m e f = ap₂ at e f
cell_at false k m e f = ap₂ at e f

pub column_in : {w h : ℕ} {t : Strip} {k : ℕ} → w ≤ max_side → h ≤ max_side → ColumnAsked w h t k → k < max_side
column_in {w} {h} {t} {k} a b C = go t.columns C.column
  where
    go : (t : Bool) → k < cond t w h → k < max_side
    go true c = omega arith
    go false c = omega arith

pub some_side : (t : Bool) {w h : ℕ} → 1 ≤ w → 1 ≤ h → 0 < cond t w h
some_side true a b = a
some_side false a b = b

-- ---- joined

pub column-joined : (M : Map) (g : Segment) (t : Strip) (k : ℕ) {r : CandidateRange} {limit : ℕ} → limit ≡ minor_side t M.width M.height → Near g t k limit r → concat_map (cut_across M g t.columns k) (range_inclusive r.first r.last) ≡ cut_column M g t k
column-joined M g t k e N =
    N.cut M ∙ ap (λ n. concat_map (cut_across M g t.columns k) (candidate_minor_range (line_of t k) n)) e
    ∙ sym (concat_map_lem (cut_from M g) (cell_of t k) (candidate_minor_range (line_of t k) (minor_side t M.width M.height)))

-- all columns of a strip
abbrev pub columns_of : Map → Segment → Strip → List Pair
columns_of M g t = concat_map (cut_column M g t) (candidate_axis_range t.major0 t.major1 (major_side t M.width M.height))

pub columns-joined : (M : Map) (g : Segment) → g.a.x ≤ g.b.x → cut_span M g ≡ columns_of M g (strip_of g)
columns-joined M g o =
    ap (concat_map (cut_from M g)) (candidates_by_strip M.width M.height g o)
    ∙ concat-concat (cut_from M g) (λ k. map (cell_of (strip_of g) k) (candidate_minor_range (line_of (strip_of g) k) (minor_side (strip_of g) M.width M.height)))
    (candidate_axis_range (strip_of g).major0 (strip_of g).major1 (major_side (strip_of g) M.width M.height))
