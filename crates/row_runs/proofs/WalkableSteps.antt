-- Steps are there between walkable cells: the straight ones between two beside one another, and the diagonal ones of a square of four. Positions; (x, y) is the upper
-- left. Assumes nothing.
use Prim.Native.Nat.{ℕ, ◌+◌}
use native.Mathlib.Omega.{arith}
use mathlib.Core.Path.{◌≡◌, ap₂, ◌∙◌}
use mathlib.Core.Bool.{true}
use Rattle.definitions.specs.Grid.{Map, at, walkable, is_step}
use Rattle.grid_steps.proofs.Square.{join4}

module _ (M : Map) where
  -- the same position by other numbers
  same_walkable : {x y u v : ℕ} → x ≡ u → y ≡ v → walkable M (at u v) ≡ true → walkable M (at x y) ≡ true
  same_walkable e f h = ap₂ (λ x y. walkable M (at x y)) e f ∙ h

  -- ---- straight steps are there between walkable cells

  pub east-step : (x y : ℕ) → walkable M (at x y) ≡ true → walkable M (at (x + 1) y) ≡ true → is_step M (at x y) (at 2 1) ≡ true
  east-step x y a b =
      join4 M (at x y) (at 2 1)
      (record {
        near_x = omega arith;
        near_y = omega arith;
        right = omega arith;
        down = omega arith;
        far = same_walkable (omega arith) (omega arith) b;
        near = a;
        side = same_walkable (omega arith) (omega arith) b;
        under = same_walkable (omega arith) (omega arith) a;
      })

  pub south-step : (x y : ℕ) → walkable M (at x y) ≡ true → walkable M (at x (y + 1)) ≡ true → is_step M (at x y) (at 1 2) ≡ true
  south-step x y a b =
      join4 M (at x y) (at 1 2)
      (record {
        near_x = omega arith;
        near_y = omega arith;
        right = omega arith;
        down = omega arith;
        far = same_walkable (omega arith) (omega arith) b;
        near = a;
        side = same_walkable (omega arith) (omega arith) a;
        under = same_walkable (omega arith) (omega arith) b;
      })

  -- ---- a square of walkable cells has both diagonal steps

  module _ (x y : ℕ) (a : walkable M (at x y) ≡ true) (b : walkable M (at (x + 1) y) ≡ true) (c : walkable M (at x (y + 1)) ≡ true) (d : walkable M (at (x + 1) (y + 1)) ≡ true) where
    pub south_east-step : is_step M (at x y) (at 2 2) ≡ true
    south_east-step =
        join4 M (at x y) (at 2 2)
        (record {
          near_x = omega arith;
          near_y = omega arith;
          right = omega arith;
          down = omega arith;
          far = same_walkable (omega arith) (omega arith) d;
          near = a;
          side = same_walkable (omega arith) (omega arith) b;
          under = same_walkable (omega arith) (omega arith) c;
        })

    pub south_west-step : is_step M (at (x + 1) y) (at 0 2) ≡ true
    south_west-step =
        join4 M (at (x + 1) y) (at 0 2)
        (record {
          near_x = omega arith;
          near_y = omega arith;
          right = omega arith;
          down = omega arith;
          far = same_walkable (omega arith) (omega arith) c;
          near = b;
          side = same_walkable (omega arith) (omega arith) a;
          under = same_walkable (omega arith) (omega arith) d;
        })
