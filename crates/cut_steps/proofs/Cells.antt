-- What the functions of one cell ask of one another, and their answers' meaning, from what is asked of the cell. Assumes nothing.
use Prim.Native.Nat.{ℕ, ◌+◌, ◌*◌, ◌≤◌, ◌<◌}
use native.Mathlib.Omega.{arith}
use mathlib.Core.Path.{◌≡◌, refl, sym, subst}
use mathlib.Core.Bool.{Bool, true, false, and-false}
use mathlib.Core.List.{List}
use lib.Dec.{ltb}
use borrow.Author.Tests.{le-ltb}
use Rattle.definitions.specs.Grid.{Segment, at, walkable, is_step}
use Rattle.span_geometry.specs.declared.SpanGeometry.{SpanGeometry}
use Rattle.grid_steps.specs.Walk.{grid_of}
use Rattle.grid_steps.specs.Inner.{Nearby, Inside}
use Rattle.grid_steps.proofs.StepTests.{step-inside}
use Rattle.cut_steps.specs.CutSteps.{is_cut_onward}
use Rattle.cut_steps.specs.Cell.{OnwardAsked, CutDirections, Uncut, Far, onward_mask}
use Rattle.cut_steps.proofs.Onward.{blocked, no_step, clear_of, no_south, no_bits, mask_bits, mask_small}

-- ---- one direction

module _ {w h : ℕ} {cells : List ℕ} {g : SpanGeometry} {x y dx dy : ℕ} (A : OnwardAsked w h cells g x y dx dy) where
  pub nearby : Nearby w h x y dx dy
  nearby = record { narrow = A.cell.narrow; short = A.cell.short; in_x = A.cell.in_x; in_y = A.cell.in_y; near_x = A.near_x; near_y = A.near_y }

pub outside : (w h : ℕ) (cells : List ℕ) (s : Segment) (x y dx dy : ℕ) → (Inside w h x y dx dy → ⊥) → false ≡ is_cut_onward (grid_of w h cells) s (at x y) (at dx dy)
outside w h cells s x y dx dy n = go (is_step (grid_of w h cells) (at x y) (at dx dy)) refl
  where
    go : (t : Bool) → is_step (grid_of w h cells) (at x y) (at dx dy) ≡ t → false ≡ is_cut_onward (grid_of w h cells) s (at x y) (at dx dy)
    go true e = absurd (n (step-inside (grid_of w h cells) x y dx dy e))
    go false e = blocked (grid_of w h cells) s (at x y) (at dx dy) e

-- ---- there is no cell to the south

pub below-grid : (w h : ℕ) (cells : List ℕ) (x y : ℕ) → h ≤ y + 1 → false ≡ walkable (grid_of w h cells) (at x (y + 1))
unfolding walkable
below-grid w h cells x y e = rw (le-ltb (y + 1) h e, and-false (ltb x w)) refl

-- ---- the cell

-- a cell that is not walkable
pub no_directions : (w h : ℕ) (cells : List ℕ) (s : Segment) (x y : ℕ) → walkable (grid_of w h cells) (at x y) ≡ false → CutDirections w h cells s x y 0
no_directions w h cells s x y n = record { small = omega arith; bits = no_bits (grid_of w h cells) s (at x y) (no_step (grid_of w h cells) s (at x y) n) }

-- the four directions decide
pub four-directions :
    (w h : ℕ) (cells : List ℕ) (s : Segment) (x y : ℕ) {a b c d : Bool} {r : ℕ} → a ≡ is_cut_onward (grid_of w h cells) s (at x y) (at 2 1)
    → b ≡ is_cut_onward (grid_of w h cells) s (at x y) (at 0 2) → c ≡ is_cut_onward (grid_of w h cells) s (at x y) (at 1 2) → d ≡ is_cut_onward (grid_of w h cells) s (at x y) (at 2 2)
    → r ≡ onward_mask a b c d → CutDirections w h cells s x y r
four-directions w h cells s x y {a} {b} {c} {d} east south_west_lem south south_east_lem e =
    subst (CutDirections w h cells s x y) (sym e) (record { small = mask_small a b c d; bits = mask_bits (grid_of w h cells) s (at x y) east south_west_lem south south_east_lem })

-- a cell that is far from the span
pub far-directions : (w h : ℕ) (cells : List ℕ) (s : Segment) (x y : ℕ) → Far s (at x y) → CutDirections w h cells s x y 0
far-directions w h cells s x y far = four-directions w h cells s x y (clear 2 1 (omega arith) (omega arith) (omega arith)) (clear 0 2 (omega arith) (omega arith) (omega arith)) (clear 1 2 (omega arith) (omega arith) (omega arith)) (clear 2 2 (omega arith) (omega arith) (omega arith)) refl
  where
    clear : (dx dy : ℕ) → dx ≤ 2 → dy ≤ 2 → 4 < dy * 3 + dx → false ≡ is_cut_onward (grid_of w h cells) s (at x y) (at dx dy)
    clear dx dy a b c = clear_of (grid_of w h cells) s (at x y) (at dx dy) (far (at dx dy) a b c)

-- a cell with no walkable cell to the south, far from the span to the east
pub east-directions : (w h : ℕ) (cells : List ℕ) (s : Segment) (x y : ℕ) → walkable (grid_of w h cells) (at x (y + 1)) ≡ false → Uncut s (at x y) (at 2 1) → CutDirections w h cells s x y 0
east-directions w h cells s x y n u =
    let none = no_south (grid_of w h cells) s (at x y) n in
    four-directions w h cells s x y (clear_of (grid_of w h cells) s (at x y) (at 2 1) u) (none 0) (none 1) (none 2) refl
