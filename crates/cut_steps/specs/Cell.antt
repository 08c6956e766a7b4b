-- The words of the contracts of one cell's functions, over the grid of the lent bytes. Definitions only; assumes nothing.
use Rattle.std.specs.Prelude.{ℕ, ◌+◌, ◌*◌, ◌≤◌, ◌<◌, ◌≡◌, Bool, true, false, cond, List, length, ℤ}
use Rattle.definitions.specs.Limits.{max_side}
use Rattle.definitions.specs.Grid.{Map, Position, at, Segment, toward, walkable}
use Rattle.definitions.specs.Spans.{pixels_per_walk_cell, cross, cell_center, cuts}
use Rattle.span_geometry.specs.declared.SpanGeometry.{SpanGeometry}
use Rattle.span_geometry.specs.Shapes.{max_pixel, Sound}
use Rattle.grid_steps.specs.Masks.{bit_of}
use Rattle.grid_steps.specs.Walk.{grid_of}
use Rattle.cut_steps.specs.CutSteps.{is_cut_onward, is_set}

-- a cell of the grid of the lent bytes, and a span
pub record CellAsked (w h : ℕ) (cells : List ℕ) (g : SpanGeometry) (x y : ℕ) : Type 0 where
  pub narrow : w ≤ max_side
  pub short : h ≤ max_side
  pub cells_long : length cells ≡ h * w
  pub sound : Sound g
  pub in_x : x < w
  pub in_y : y < h

-- at each direction, the bit of the mask says whether the step in it leads onward and is cut
abbrev pub CutBits : Map → Segment → Position → ℕ → Type 0
CutBits M g p mask = (d : Position) → d.x ≤ 2 → d.y ≤ 2 → is_set mask (bit_of d) ≡ is_cut_onward M g p d

pub record CutDirections (w h : ℕ) (cells : List ℕ) (g : Segment) (x y mask : ℕ) : Type 0 where
  pub small : mask < 512
  pub bits : CutBits (grid_of w h cells) g (at x y) mask

-- the side value of a cell's centre
abbrev pub side_of : Segment → Position → ℤ
side_of g p = cross g.a g.b (cell_center p)

-- the segment does not cut the step from p in direction d, whatever cells are walkable
abbrev pub Uncut : Segment → Position → Position → Type 0
Uncut g p d = 1 ≤ p.x + d.x → 1 ≤ p.y + d.y → cuts g p (toward p d) ≡ false

-- nor any step from p to a cell of larger number
abbrev pub Far : Segment → Position → Type 0
Far g p = (d : Position) → d.x ≤ 2 → d.y ≤ 2 → 4 < bit_of d → Uncut g p d

-- how much a step can change the side value of a cell's centre, at most: 8 pixels times both extents of a span
abbrev pub max_reach : ℕ
max_reach = pixels_per_walk_cell * (max_pixel + max_pixel)

-- the mask of the four directions to cells of larger number, east, south-west, south and south-east: bits 5 to 8
abbrev pub onward_mask : Bool → Bool → Bool → Bool → ℕ
onward_mask east south_west_lem south south_east_lem = cond east 32 0 + cond south_west_lem 64 0 + cond south 128 0 + cond south_east_lem 256 0

-- a walkable cell, and a direction to cells of larger number, which are those whose bit is above that of (1, 1)
pub record OnwardAsked (w h : ℕ) (cells : List ℕ) (g : SpanGeometry) (x y dx dy : ℕ) : Type 0 where
  pub cell : CellAsked w h cells g x y
  pub walks : walkable (grid_of w h cells) (at x y) ≡ true
  pub near_x : dx ≤ 2
  pub near_y : dy ≤ 2
  pub onward : 4 < bit_of (at dx dy)
