-- The steps from a walkable cell, by the cells about it: one in a direction is there where the cell in it and the two side cells are walkable (`step_is`), and so those of the
-- four directions to cells of larger number (`inside-steps`). Assumes nothing.
use Prim.Native.Nat.{ℕ, ◌+◌, ◌-◌, ◌≤◌, ◌<◌}
use native.Mathlib.Omega.{arith}
use mathlib.Core.Path.{◌≡◌, refl, sym, ap, ◌∙◌}
use mathlib.Core.Bool.{Bool, true, false, ◌&&◌}
use mathlib.Core.List.{List}
use lib.Dec.{leb, ltb}
use borrow.Author.Tests.{leb-true, ltb-true}
use Rattle.definitions.specs.Grid.{Map, at, walkable, is_step}
use Rattle.laws.specs.ListLaws.Tests.{both, same_test}
use Rattle.grid_steps.specs.Walk.{grid_of}
use Rattle.grid_steps.specs.Inner.{Inside}
use Rattle.grid_steps.proofs.Square.{four, join4}
use Rattle.grid_steps.proofs.StepTests.{step-inside}
use Rattle.cut_steps.specs.Cell.{onward_mask}
use Rattle.cut_steps.specs.Crossed.{steps_onward}

-- ---- a cell of the grid

pub not_there : (w h : ℕ) (cells : List ℕ) (x y dx dy : ℕ) → (Inside w h x y dx dy → ⊥) → false ≡ is_step (grid_of w h cells) (at x y) (at dx dy)
not_there w h cells x y dx dy n = go (is_step (grid_of w h cells) (at x y) (at dx dy)) refl
  where
    go : (t : Bool) → is_step (grid_of w h cells) (at x y) (at dx dy) ≡ t → false ≡ t
    go true e = absurd (n (step-inside (grid_of w h cells) x y dx dy e))
    go false e = refl

pub tests : (x w y h : ℕ) → (leb 1 x && ltb (x + 1) w && ltb (y + 1) h) ≡ true → (1 ≤ x) × (x + 1 < w) × (y + 1 < h)
tests x w y h e =
    let a = both (leb 1 x && ltb (x + 1) w) (ltb (y + 1) h) e in
    let b = both (leb 1 x) (ltb (x + 1) w) a.0 in
    (leb-true _ _ b.0, ltb-true _ _ b.1, ltb-true _ _ a.1)

-- ---- one step

module _ (M : Map) (x y : ℕ) (near : walkable M (at x y) ≡ true) where
  pub step_is :
      (dx dy : ℕ) → dx ≤ 2 → dy ≤ 2 → 1 ≤ x + dx → 1 ≤ y + dy
      → (walkable M (at (x + dx - 1) (y + dy - 1)) && walkable M (at (x + dx - 1) y) && walkable M (at x (y + dy - 1))) ≡ is_step M (at x y) (at dx dy)
  step_is dx dy a b c d =
      same_test
      (λ e.
      let p = both (walkable M (at (x + dx - 1) (y + dy - 1)) && walkable M (at (x + dx - 1) y)) (walkable M (at x (y + dy - 1))) e in
      let q = both (walkable M (at (x + dx - 1) (y + dy - 1))) (walkable M (at (x + dx - 1) y)) p.0 in
      join4 M (at x y) (at dx dy) (record { near_x = a; near_y = b; right = c; down = d; far = q.0; near = near; side = q.1; under = p.1 }))
      (λ e. let f = four M (at x y) (at dx dy) e in rw (f.far, f.side, f.under) refl)

  -- by the cell in its direction, at (i, j)
  by-cells :
      (dx dy i j : ℕ) → dx ≤ 2 → dy ≤ 2 → 1 ≤ x + dx → 1 ≤ y + dy → i ≡ x + dx - 1 → j ≡ y + dy - 1
      → (walkable M (at i j) && walkable M (at i y) && walkable M (at x j)) ≡ is_step M (at x y) (at dx dy)
  by-cells dx dy i j a b c d e f = (λ t. walkable M (at (e t) (f t)) && walkable M (at (e t) y) && walkable M (at x (f t))) ∙ step_is dx dy a b c d

  straight : (s t : Bool) → t ≡ true → s ≡ (s && s && t)
  straight true t e = sym e
  straight false t e = refl

  across : (s t : Bool) → t ≡ true → s ≡ (s && t && s)
  across true t e = sym (ap (λ t. t && true) e)
  across false t e = refl

  pub inside-steps :
      1 ≤ x
      → onward_mask (walkable M (at (x + 1) y)) (walkable M (at (x - 1) (y + 1)) && walkable M (at (x - 1) y) && walkable M (at x (y + 1))) (walkable M (at x (y + 1)))
      (walkable M (at (x + 1) (y + 1)) && walkable M (at (x + 1) y) && walkable M (at x (y + 1)))
      ≡ steps_onward M (at x y)
  unfolding steps_onward
  inside-steps h = λ i. onward_mask (east i) (south-west i) (south i) (south-east i)
    where
      east : walkable M (at (x + 1) y) ≡ is_step M (at x y) (at 2 1)
      east = straight (walkable M (at (x + 1) y)) (walkable M (at x y)) near ∙ by-cells 2 1 (x + 1) y (omega arith) (omega arith) (omega arith) (omega arith) (omega arith) (omega arith)

      south-west : (walkable M (at (x - 1) (y + 1)) && walkable M (at (x - 1) y) && walkable M (at x (y + 1))) ≡ is_step M (at x y) (at 0 2)
      south-west = by-cells 0 2 (x - 1) (y + 1) (omega arith) (omega arith) (omega arith) (omega arith) (omega arith) (omega arith)

      south : walkable M (at x (y + 1)) ≡ is_step M (at x y) (at 1 2)
      south = across (walkable M (at x (y + 1))) (walkable M (at x y)) near ∙ by-cells 1 2 x (y + 1) (omega arith) (omega arith) (omega arith) (omega arith) (omega arith) (omega arith)

      south-east : (walkable M (at (x + 1) (y + 1)) && walkable M (at (x + 1) y) && walkable M (at x (y + 1))) ≡ is_step M (at x y) (at 2 2)
      south-east = by-cells 2 2 (x + 1) (y + 1) (omega arith) (omega arith) (omega arith) (omega arith) (omega arith) (omega arith)
