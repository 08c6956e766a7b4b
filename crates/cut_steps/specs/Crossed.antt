-- The words of the walk between a span's ends: which steps of a cell change sides, and so are cut where they are there, by the first places past the span's line in the
-- cell's column, or row, and in the two beside it. Definitions only; assumes nothing.
use Rattle.std.specs.Prelude.{ℕ, ◌+◌, ◌-◌, ◌*◌, ◌/◌, ◌%◌, ◌^◌, ◌≤◌, ◌<◌, ◌≡◌, ◌⊎◌, Bool, not, ◌&&◌, cond, List, [], length, leb, ltb}
use Rattle.std.specs.Bool.{beq}
use Rattle.definitions.specs.Limits.{max_side}
use Rattle.definitions.specs.Grid.{Map, Position, at, Pair, Segment, toward, is_step}
use Rattle.definitions.specs.Scan.{concat_map}
use Rattle.definitions.specs.Spans.{cuts, candidate_axis_range}
use Rattle.span_geometry.specs.declared.strips.Strip.{Strip}
use Rattle.span_geometry.specs.Strips.{Usable, strip_of}
use Rattle.span_geometry.specs.Candidates.{cell_of, minor_side, major_side}
use Rattle.line_crossings.specs.Crossings.{Between, tie_of, Crossing, Close}
use Rattle.grid_steps.specs.Masks.{bit_of}
use Rattle.cut_steps.specs.CutSteps.{is_set}
use Rattle.cut_steps.specs.Cell.{onward_mask}
use Rattle.cut_steps.specs.Prefixes.{up_to}
use Rattle.cut_steps.specs.Extents.{Covers, last_reached}
use Rattle.cut_steps.specs.Columns.{cut_across, cut_column}

-- a cell of the grid of the lent bytes
pub record InGrid (w h : ℕ) (cells : List ℕ) (x y : ℕ) : Type 0 where
  pub narrow : w ≤ max_side
  pub short : h ≤ max_side
  pub cells_long : length cells ≡ h * w
  pub in_x : x < w
  pub in_y : y < h

-- the steps from p to cells of larger number, a bit for each
unfoldable pub steps_onward : Map → Position → ℕ
unfolding is_step
steps_onward M p = onward_mask (is_step M p (at 2 1)) (is_step M p (at 0 2)) (is_step M p (at 1 2)) (is_step M p (at 2 2))

-- the bits say which steps from p to cells of larger number g cuts, whatever cells are walkable
pub record Crossed (g : Segment) (p : Position) (changes : ℕ) : Type 0 where
  pub small : changes < 512
  pub cut : (d : Position) → d.x ≤ 2 → d.y ≤ 2 → 4 < bit_of d → 1 ≤ p.x + d.x → 1 ≤ p.y + d.y → is_set changes (bit_of d) ≡ cuts g p (toward p d)

abbrev pub differ : Bool → Bool → Bool
differ s t = not (beq s t)

-- the changes of sides from place i of a column, or row, by the first places past the line: before is that of the column before, and so on
abbrev pub changes_at : Bool → (before here after i : ℕ) → ℕ
changes_at columns before here after i =
    cond columns
    (onward_mask (differ (leb here i) (leb after i)) (differ (leb here i) (leb before (i + 1))) (differ (leb here i) (leb here (i + 1))) (differ (leb here i) (leb after (i + 1))))
    (onward_mask (differ (leb here i) (leb here (i + 1))) (differ (leb here i) (leb (after + 1) i)) (differ (leb here i) (leb after i)) (differ (leb here i) (leb after (i + 1))))

-- The changes of sides about the first place past the line, at 2, by the first place after it, four bits for each of four places: a word for the first place before it.
abbrev pub SideWord : Bool → (back word : ℕ) → Type 0
SideWord columns back word = (ahead j : ℕ) → ahead ≤ 3 → j ≤ 3 → word / 2 ^ (16 * ahead + 4 * j) % 16 * 32 ≡ changes_at columns back 2 ahead j

-- the first places past the line in column, or row, k of a strip and in the two beside it, which are between the strip's ends
pub record Follows (t : Strip) (tie k before here after : ℕ) : Type 0 where
  pub usable : Usable t
  pub some : 1 ≤ k
  pub between-before : Between t (k - 1)
  pub between : Between t k
  pub between-after : Between t (k + 1)
  pub was : (r : ℕ) × Crossing t tie (k - 1) before r
  pub is : (r : ℕ) × Crossing t tie k here r
  pub next : (r : ℕ) × Crossing t tie (k + 1) after r
  pub close-before : Close before here
  pub close-after : Close here after

-- the steps of f at two less than b, where that is a number below the limit
abbrev pub two_back : (ℕ → List Pair) → ℕ → ℕ → List Pair
two_back f limit b = cond (leb 2 b && ltb (b - 2) limit) (f (b - 2)) []

-- ---- the words of the walk over columns

-- the strip of g, and the first places past its line
pub record FollowsIn (t : Strip) (g : Segment) (k before here after : ℕ) : Type 0 where
  pub strip : t ≡ strip_of g
  pub follows : Follows t (tie_of g) k before here after

-- the changes of sides of the cell at two less than `beyond` across column, or row, k
abbrev pub CrossedAt : Segment → Strip → (k beyond changes : ℕ) → Type 0
CrossedAt g t k beyond changes = 2 ≤ beyond → Crossed g (cell_of t k (beyond - 2)) changes

-- the cut steps of that cell, if there is one
abbrev pub cut_two_back : Map → Segment → Strip → ℕ → ℕ → List Pair
cut_two_back M g t k beyond = two_back (cut_across M g t.columns k) (minor_side t M.width M.height) beyond

-- those of the candidates in the columns, or rows, from `from` on before `to`
abbrev pub cut_columns : Map → Segment → Strip → ℕ → ℕ → List Pair
cut_columns M g t from to = concat_map (cut_column M g t) (up_to from to)

-- columns, or rows, of a map that is not empty
pub record ColumnsAsked (w h : ℕ) (t : Strip) (from to : ℕ) : Type 0 where
  pub usable : Usable t
  pub columns : (k : ℕ) → from ≤ k → k < to → k < major_side t w h
  pub some : 0 < minor_side t w h

-- between the ends of g: each of them, and those beside it, have their middles there
abbrev pub Inside : Strip → ℕ → ℕ → Type 0
Inside t from to = (k : ℕ) → from ≤ k → k < to → (t.major0 + 4 ≤ 8 * k) × (8 * k + 12 ≤ t.major1)

pub record BetweenAsked (g : Segment) (t : Strip) (from to : ℕ) : Type 0 where
  pub strip : t ≡ strip_of g
  pub inside : Inside t from to

-- the columns, or rows, near a span, from `first` on before `end`; those from `from` on before `to` are between its ends
pub record Parted (t : Strip) (limit first from to end : ℕ) : Type 0 where
  pub first_from : first ≤ from
  pub from_to_lem : from ≤ to
  pub to_end : to ≤ end
  pub numbers : Covers t.major0 (last_reached t) (up_to first end) (candidate_axis_range t.major0 t.major1 limit)
  pub below : (k : ℕ) → first ≤ k → k < end → k < limit
  pub inside : Inside t from to

-- the end of the part that begins at k: that of the columns, or rows, between the ends, or the next one
abbrev pub EndsPart : (from to k end : ℕ) → Type 0
EndsPart from to k end = (end ≡ k + 1) ⊎ ((k ≡ from) × (end ≡ to) × (from < to))

-- a part: one column, or row, or some that are between the ends of g
pub record PartAsked (g : Segment) (t : Strip) (from to : ℕ) : Type 0 where
  pub some : from < to
  pub between : from + 1 < to → BetweenAsked g t from to
