-- Steps of the grid, place by place of the square of nine about a cell: what `is_step` tests (`Four`), cells and positions, and the step back (`across`).
-- Of a step's four cells the step back has the same four, so it is a step. Assumes nothing.
use Prim.Native.Nat.{ℕ, ◌+◌, ◌-◌, ◌*◌, ◌≤◌, ◌<◌}
use native.Mathlib.Omega.{arith}
use native.Mathlib.Nat.{div-add-mod'}
use mathlib.Core.Path.{◌≡◌, refl, ap, ap₂, ◌∙◌}
use mathlib.Core.Bool.{true, ◌&&◌}
use lib.Arith.{digits_lt, digits_div, digits_mod}
use lib.Dec.{ltb, leb}
use borrow.Author.Tests.{ltb-true, leb-true, le-leb}
use Rattle.definitions.specs.Grid.{Map, Position, at, toward, index, position_of, cell_count, cell_at, is_walkable, walkable, is_step}
use Rattle.definitions.specs.Partition.{walkable_at}
use Rattle.laws.specs.ListLaws.Tests.{both}
use Rattle.grid_steps.specs.Masks.{opposite, reached}

-- what `is_step` tests, test by test
pub record Four (M : Map) (p d : Position) : Type 0 where
  pub near_x : d.x ≤ 2
  pub near_y : d.y ≤ 2
  pub right : 1 ≤ p.x + d.x
  pub down : 1 ≤ p.y + d.y
  pub far : walkable M (toward p d) ≡ true
  pub near : walkable M p ≡ true
  pub side : walkable M (at (toward p d).x p.y) ≡ true
  pub under : walkable M (at p.x (toward p d).y) ≡ true

pub four : (M : Map) (p d : Position) → is_step M p d ≡ true → Four M p d
unfolding is_step
four M p d h =
    let a = both _ (walkable M (at p.x (toward p d).y)) h in
    let b = both _ (walkable M (at (toward p d).x p.y)) a.0 in
    let c = both _ (walkable M p) b.0 in
    let e = both _ (walkable M (toward p d)) c.0 in
    let f = both _ (leb 1 (p.y + d.y)) e.0 in
    let g = both _ (leb 1 (p.x + d.x)) f.0 in
    let k = both (leb d.x 2) (leb d.y 2) g.0 in
    record {
      near_x = leb-true _ _ k.0;
      near_y = leb-true _ _ k.1;
      right = leb-true _ _ g.1;
      down = leb-true _ _ f.1;
      far = e.1;
      near = c.1;
      side = b.1;
      under = a.1;
    }

pub join4 : (M : Map) (p d : Position) → Four M p d → is_step M p d ≡ true
unfolding is_step
join4 M p d f =
    rw (le-leb d.x 2 f.near_x, le-leb d.y 2 f.near_y, le-leb 1 (p.x + d.x) f.right, le-leb 1 (p.y + d.y) f.down, f.far, f.near, f.side, f.under) refl

-- what `walkable` tests
pub record In (M : Map) (p : Position) : Type 0 where
  pub x : p.x < M.width
  pub y : p.y < M.height
  pub walks : walkable_at M (index M p) ≡ true

pub walkable_in : (M : Map) (p : Position) → walkable M p ≡ true → In M p
unfolding walkable
walkable_in M p h =
    let a = both (ltb p.x M.width && ltb p.y M.height) (is_walkable (cell_at M (index M p))) h in
    let b = both (ltb p.x M.width) (ltb p.y M.height) a.0 in
    record { x = ltb-true _ _ b.0; y = ltb-true _ _ b.1; walks = a.1 }

-- ---- cells and positions

module _ (M : Map) where
  pub position-index : (p : Position) → p.x < M.width → position_of M (index M p) ≡ p
  position-index p h = ap₂ at (digits_mod p.y h) (digits_div p.y h)

  pub index-position : (c : ℕ) → index M (position_of M c) ≡ c
  index-position c = div-add-mod' c M.width

  -- the other side of a step
  pub record Across (c : ℕ) (d : Position) : Type 0 where
    pub inside : reached M c d < cell_count M
    pub here : position_of M (reached M c d) ≡ toward (position_of M c) d
    pub step : is_step M (position_of M (reached M c d)) (opposite d) ≡ true
    pub home : reached M (reached M c d) (opposite d) ≡ c

  pub across : (c : ℕ) (d : Position) → is_step M (position_of M c) d ≡ true → Across c d
  unfolding cell_count
  across c d s =
      record {
        inside = digits_lt i.y i.x;
        here = there;
        step = ap (λ r. is_step M r (opposite d)) there ∙ join4 M q (opposite d) turned;
        home = ap (λ r. index M (toward r (opposite d))) there ∙ ap₂ (λ x y. y * M.width + x) home-x home-y ∙ index-position c;
      }
    where
      p : Position
      p = position_of M c

      q : Position
      q = toward p d

      f : Four M p d
      f = four M p d s

      i : In M q
      i = walkable_in M q f.far

      there : position_of M (index M q) ≡ q
      there = position-index q i.x

      home-x : p.x + d.x - 1 + (2 - d.x) - 1 ≡ p.x
      home-x = omega (arith, f.near_x, f.right)

      home-y : p.y + d.y - 1 + (2 - d.y) - 1 ≡ p.y
      home-y = omega (arith, f.near_y, f.down)

      turned : Four M (toward p d) (opposite d)
      turned =
          record {
            near_x = omega arith;
            near_y = omega arith;
            right = omega (arith, f.near_x, f.right);
            down = omega (arith, f.near_y, f.down);
            far = ap₂ (λ x y. walkable M (at x y)) home-x home-y ∙ f.near;
            near = f.far;
            side = ap (λ x. walkable M (at x (p.y + d.y - 1))) home-x ∙ f.under;
            under = ap (λ y. walkable M (at (p.x + d.x - 1) y)) home-y ∙ f.side;
          }
