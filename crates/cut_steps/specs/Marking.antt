-- The words of the contracts of the functions that mark cut steps, and of those that ask the marks. Definitions only; assumes nothing.
use Rattle.std.specs.Prelude.{ℕ, ◌+◌, ◌*◌, ◌/◌, ◌≤◌, ◌<◌, ◌≡◌, true, ◌||◌, List, length, get_or, drop}
use Rattle.definitions.specs.Limits.{numbers_per_span}
use Rattle.definitions.specs.Grid.{Map, Position, Pair, canonical, segment_at, cell_count}
use Rattle.span_geometry.specs.Shapes.{max_pixel}
use Rattle.grid_steps.specs.Masks.{bit_of, cut_bit, is_onward, is_onward_in}
use Rattle.grid_steps.specs.Walk.{grid_of}
use Rattle.grid_steps.specs.Contract.{CutMap}
use Rattle.cut_steps.specs.CutSteps.{cut_span}
use Rattle.cut_steps.specs.Contract.{SpanMap}

-- ---- what is lent

-- a span of a list, with coordinates up to the greatest of a map
pub record SpanAtAsked (spans : List ℕ) (i : ℕ) : Type 0 where
  pub there : i < length spans / numbers_per_span
  pub x0 : get_or spans (numbers_per_span * i) 0 ≤ max_pixel
  pub y0 : get_or spans (numbers_per_span * i + 1) 0 ≤ max_pixel
  pub x1 : get_or spans (numbers_per_span * i + 2) 0 ≤ max_pixel
  pub y1 : get_or spans (numbers_per_span * i + 3) 0 ≤ max_pixel

-- ---- what is left of it

-- Masks `was` have become `masks`: a bit is set that was set, or that is of an added step, at its smaller cell. What stands beyond the grid is as it was.
pub record Marked (M : Map) (was masks : List ℕ) (added : List Pair) : Type 0 where
  pub bits : (c : ℕ) (d : Position) → c < cell_count M → d.x ≤ 2 → d.y ≤ 2 → cut_bit masks c (bit_of d) ≡ (cut_bit was c (bit_of d) || is_onward_in M added c d)
  pub long : length masks ≡ length was
  pub rest : drop (M.height * M.width) masks ≡ drop (M.height * M.width) was

-- ---- what masks show

-- The masks have the bit of each step of E, at its smaller cell, and each bit of theirs is that of a step.
pub record Shown (M : Map) (masks : List ℕ) (E : List Pair) : Type 0 where
  pub long : cell_count M ≤ length masks
  pub steps : (c : ℕ) (d : Position) → c < cell_count M → d.x ≤ 2 → d.y ≤ 2 → cut_bit masks c (bit_of d) ≡ true → is_onward M c d ≡ true
  pub bits : (c : ℕ) (d : Position) → c < cell_count M → d.x ≤ 2 → d.y ≤ 2 → is_onward_in M E c d ≡ true → cut_bit masks c (bit_of d) ≡ true

-- the cut steps of each span of a list
abbrev pub SpansShown : (w h : ℕ) (cells spans masks : List ℕ) → Type 0
SpansShown w h cells spans masks =
    (i : ℕ) → i < length spans / numbers_per_span → Shown (grid_of w h cells) masks (cut_span (grid_of w h cells) (canonical (segment_at spans (numbers_per_span * i))))

-- of masks that were 0: they are as labelling and the assessment ask, of every map with these cells and spans
pub record SpansMarked (w h : ℕ) (cells spans was masks : List ℕ) : Type 0 where
  pub maps : (M : Map) → SpanMap w h cells spans M → CutMap w h cells masks M
  pub shown : SpansShown w h cells spans masks
  pub long : length masks ≡ length was
  pub rest : drop (h * w) masks ≡ drop (h * w) was
