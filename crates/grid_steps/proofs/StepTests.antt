-- The code's tests of a direction, one by one: where `is_inside` stops, the position is outside or every neighbour is in the grid, and where `is_step` stops, one of the four cells is not walkable.
-- Assumes nothing.
use Prim.Native.Nat.{ℕ, zero, suc, ◌+◌, ◌-◌, ◌*◌, ◌/◌, ◌%◌, ◌≤◌, ◌<◌}
use native.Mathlib.Omega.{arith}
use native.Mathlib.Nat.{mul-le-mul, mul-zero, mod-lt, div-lt_iff_lt-mul}
use mathlib.Core.Path.{◌≡◌, refl, sym, ◌∙◌}
use mathlib.Core.Bool.{Bool, true, false, true≢false}
use mathlib.Core.List.{List}
use lib.ListN.{get_or}
use lib.Arith.{digits_lt}
use lib.Dec.{eqb}
use borrow.Author.Tests.{le-leb, lt-ltb}
use Rattle.definitions.specs.Grid.{Map, Position, at, walkable, is_step}
use Rattle.grid_steps.specs.Walk.{grid_of}
use Rattle.grid_steps.specs.Inner.{Nearby, Inside}
use Rattle.grid_steps.proofs.Square.{Four, four, walkable_in}

module _ (w h x y dx dy : ℕ) where
  -- ---- whether the position in the direction is in the grid

  -- ---- the cells about it

  pub grid-small : Nearby w h x y dx dy → h * w ≤ 1048576
  grid-small N = mul-le-mul N.short N.narrow

  -- the three cells beside the first are in the grid, which is small
  pub record Cells : Type 0 where
    pub small : h * w ≤ 1048576
    pub far : (y + dy - 1) * w + (x + dx - 1) < h * w
    pub side : y * w + (x + dx - 1) < h * w
    pub under : (y + dy - 1) * w + x < h * w

  pub cells_in : Nearby w h x y dx dy → Inside w h x y dx dy → Cells
  cells_in N I = record { small = grid-small N; far = digits_lt down right; side = digits_lt N.in_y right; under = digits_lt down N.in_x }
    where
      right : x + dx - 1 < w
      right = omega (arith, I.left, I.right)

      down : y + dy - 1 < h
      down = omega (arith, I.up, I.down)

-- ---- the four cells

not_step : (M : Map) (p d : Position) → (Four M p d → ⊥) → false ≡ is_step M p d
not_step M p d n = go (is_step M p d) refl
  where
    go : (b : Bool) → is_step M p d ≡ b → false ≡ b
    go true e = absurd (n (four M p d e))
    go false e = refl

-- where there is a step the position in the direction is in the grid
pub step-inside : (M : Map) (x y dx dy : ℕ) → is_step M (at x y) (at dx dy) ≡ true → Inside M.width M.height x y dx dy
step-inside M x y dx dy s =
    let f = four M (at x y) (at dx dy) s in
    let i = walkable_in M (at (x + dx - 1) (y + dy - 1)) f.far in
    record { left = f.right; up = f.down; right = omega (arith, f.right, i.x); down = omega (arith, f.down, i.y) }

module _ (w h : ℕ) (cells : List ℕ) where
  pub walkable_at_lem : (x y : ℕ) → x < w → y < h → walkable (grid_of w h cells) (at x y) ≡ eqb (get_or cells (y * w + x) 0 % 2) 1
  unfolding walkable
  walkable_at_lem x y a b = rw (lt-ltb x w a, lt-ltb y h b) refl

  module _ (x y dx dy : ℕ) where
    pub far-blocked : walkable (grid_of w h cells) (at (x + dx - 1) (y + dy - 1)) ≡ false → false ≡ is_step (grid_of w h cells) (at x y) (at dx dy)
    far-blocked n = not_step (grid_of w h cells) (at x y) (at dx dy) (λ f. true≢false (sym f.far ∙ n))

    pub side-blocked : walkable (grid_of w h cells) (at (x + dx - 1) y) ≡ false → false ≡ is_step (grid_of w h cells) (at x y) (at dx dy)
    side-blocked n = not_step (grid_of w h cells) (at x y) (at dx dy) (λ f. true≢false (sym f.side ∙ n))

    pub under-decides : Nearby w h x y dx dy → Inside w h x y dx dy → walkable (grid_of w h cells) (at x y) ≡ true → walkable (grid_of w h cells) (at (x + dx - 1) (y + dy - 1)) ≡ true → walkable (grid_of w h cells) (at (x + dx - 1) y) ≡ true → walkable (grid_of w h cells) (at x (y + dy - 1)) ≡ is_step (grid_of w h cells) (at x y) (at dx dy)
    unfolding is_step
    under-decides N I near far side = rw (le-leb dx 2 N.near_x, le-leb dy 2 N.near_y, le-leb 1 (x + dx) I.left, le-leb 1 (y + dy) I.up, far, near, side) refl

-- ---- the position of a cell

pub cell-wide : (c w h : ℕ) → c < h * w → 0 < w
cell-wide c (suc w) h r = omega arith
cell-wide c zero h r = absurd (omega (arith, mul-zero h))

pub cell-x : (c w h : ℕ) → c < h * w → c % w < w
cell-x c w h r = mod-lt c (cell-wide c w h r)

pub cell-y : (c w h : ℕ) → c < h * w → c / w < h
cell-y c w h r = (div-lt_iff_lt-mul (cell-wide c w h r)).1 r
