-- Steps by cell number, where the masks say of each step of a map, at its smaller cell, whether the spans cut it: what is the same at both ends of every uncut step
-- to the east, to the south and across a square is the same at both cells of every uncut step of the map (`level-onward`), and the other way round (`onward-level`).
-- Assumes nothing.
use Prim.Native.Nat.{ℕ, suc, ◌+◌, ◌-◌, ◌*◌, ◌≤◌, ◌<◌}
use native.Mathlib.Omega.{arith}
use mathlib.Core.Path.{◌≡◌, sym, ap, ap₂, ◌∙◌}
use mathlib.Core.Bool.{true, false, not, ◌&&◌, true≢false}
use mathlib.Core.List.{List}
use lib.Arith.{digits_lt}
use borrow.Author.Tests.{lt-ltb, le-ltb, not-true}
use Rattle.definitions.specs.Grid.{Map, Position, at, Pair, toward, index, position_of, is_step, walkable, cell_count}
use Rattle.definitions.specs.Partition.{cut_all_lem, walkable_at}
use Rattle.laws.specs.ListLaws.Lists.{done, more}
use Rattle.laws.specs.ListLaws.Members.{all-place}
use Rattle.grid_steps.specs.Masks.{bit_of, cut_bit, reached, OnwardMarks}
use Rattle.grid_steps.specs.Walk.{direction_at}
use Rattle.grid_steps.proofs.Square.{Four, four, In, walkable_in, index-position, position-index}
use Rattle.grid_steps.proofs.Onward.{next_row, same_row, onward-bit}
use Rattle.grid_steps.proofs.OpenSteps.{is_open, open_step, open_uncut, OnwardAll}
use Rattle.row_runs.specs.Stretch.{walks}
use Rattle.row_runs.specs.Corners.{is_square, CornerLevel}
use Rattle.row_runs.specs.Cells.{Level}
use Rattle.row_runs.proofs.CornerNames.{square-cells, square-whole}
use Rattle.row_runs.proofs.WalkableSteps.{east-step, south-step, south_east-step, south_west-step}

-- g is the same at both cells
abbrev pub Even : {X : Type 0} → (ℕ → X) → Pair → Type 0
Even g e = g e.lo ≡ g e.hi

module _ (M : Map) (masks : List ℕ) (marks : OnwardMarks M masks (cut_all_lem M)) {X : Type 0} (g : ℕ → X) where
  -- ---- from levels to the steps of the map

  module _ (L : Level M.width M.height M.cells masks g) (c : ℕ) (h : c < cell_count M) where
    abbrev here : Position
    here = position_of M c

    -- a direction to smaller numbers
    backward : (d : Position) → bit_of d ≤ 4 → is_open M c d ≡ true → c < reached M c d → Even g (record { lo = c; hi = reached M c d })
    backward d b o l =
        absurd
        (true≢false
        (sym (lt-ltb (index M here) (reached M c d) (omega (arith, index-position M c))) ∙ onward-bit M here d (open_step M c d o) ∙ le-ltb 4 (bit_of d) b))

    -- an open step to a larger cell
    record Free (d : Position) : Type 0 where
      free : cut_bit masks c (bit_of d) ≡ false
      cells : Four M here d
      far : In M (toward here d)
      near : In M here
      side : In M (at (toward here d).x here.y)
      under : In M (at here.x (toward here d).y)

    free_step : (d : Position) → is_open M c d ≡ true → c < reached M c d → Free d
    free_step d o l =
        let s = open_step M c d o in
        let f = four M here d s in
        record {
          free = marks c d h s l ∙ not-true _ (open_uncut M c d o);
          cells = f;
          far = walkable_in M _ f.far;
          near = walkable_in M _ f.near;
          side = walkable_in M _ f.side;
          under = walkable_in M _ f.under;
        }

    -- the cell at number t is walkable if the one at number k is
    walks_at : {k t : ℕ} → k ≡ t → walkable_at M k ≡ true → walks M.cells t ≡ true
    walks_at e v = ap (walkable_at M) (sym e) ∙ v

    east : is_open M c (at 2 1) ≡ true → c < reached M c (at 2 1) → Even g (record { lo = c; hi = reached M c (at 2 1) })
    east o l =
        sym (L.east here.y f.near.y c (omega (arith, index-position M c)) (omega (arith, index-position M c, f.far.x)) (walks_at (index-position M c) f.near.walks) (walks_at to f.far.walks) f.free)
        ∙ ap g (sym to)
      where
        f : Free (at 2 1)
        f = free_step (at 2 1) o l

        to : reached M c (at 2 1) ≡ c + 1
        to = omega (arith, index-position M c, same_row here.y M.width {k = here.y + 1 - 1} (omega arith))

    module _ (dx : ℕ) (f : Free (at dx 2)) where
      -- the row below
      below : (here.y + 2 - 1) * M.width ≡ here.y * M.width + M.width
      below = next_row here.y M.width {k = here.y + 2 - 1} (omega arith)

      last : suc here.y < M.height
      last = omega (arith, f.far.y)

    south : is_open M c (at 1 2) ≡ true → c < reached M c (at 1 2) → Even g (record { lo = c; hi = reached M c (at 1 2) })
    south o l =
        sym (L.south here.y (last 1 f) c (omega (arith, index-position M c)) (omega (arith, index-position M c, f.near.x)) (walks_at (index-position M c) f.near.walks) (walks_at to f.far.walks) f.free)
        ∙ ap g (sym to)
      where
        f : Free (at 1 2)
        f = free_step (at 1 2) o l

        to : reached M c (at 1 2) ≡ c + M.width
        to = omega (arith, index-position M c, below 1 f)

    south-east : is_open M c (at 2 2) ≡ true → c < reached M c (at 2 2) → Even g (record { lo = c; hi = reached M c (at 2 2) })
    south-east o l =
        sym ((L.corners here.y (last 2 f) c (omega (arith, index-position M c)) (omega (arith, index-position M c, f.far.x))).south_east_lem square f.free)
        ∙ ap g (sym to)
      where
        f : Free (at 2 2)
        f = free_step (at 2 2) o l

        to : reached M c (at 2 2) ≡ c + M.width + 1
        to = omega (arith, index-position M c, below 2 f)

        square : is_square M.width M.cells c ≡ true
        square =
            square-whole M.width M.cells c (walks_at (index-position M c) f.near.walks) (walks_at (omega (arith, index-position M c)) f.side.walks)
            (walks_at (omega (arith, index-position M c, below 2 f)) f.under.walks)
            (walks_at to f.far.walks)

    -- the square's upper left is the cell before c
    south-west : is_open M c (at 0 2) ≡ true → c < reached M c (at 0 2) → Even g (record { lo = c; hi = reached M c (at 0 2) })
    south-west o l = from (c - 1) (omega (arith, index-position M c, f.cells.right))
      where
        f : Free (at 0 2)
        f = free_step (at 0 2) o l

        from : (b : ℕ) → c ≡ b + 1 → Even g (record { lo = c; hi = reached M c (at 0 2) })
        from b is =
            ap g is
            ∙ sym ((L.corners here.y (last 0 f) b (omega (arith, index-position M c, f.cells.right)) (omega (arith, index-position M c, f.near.x))).south_west_lem square (ap (λ k. cut_bit masks k 6) (sym is) ∙ f.free))
            ∙ ap g (sym to)
          where
            to : reached M c (at 0 2) ≡ b + M.width
            to = omega (arith, index-position M c, below 0 f, f.cells.right)

            square : is_square M.width M.cells b ≡ true
            square =
                square-whole M.width M.cells b (walks_at (omega (arith, index-position M c, f.cells.right)) f.side.walks) (walks_at (index-position M c ∙ is) f.near.walks)
                (walks_at to f.far.walks)
                (walks_at (omega (arith, index-position M c, below 0 f, f.cells.right)) f.under.walks)

  pub level-onward : Level M.width M.height M.cells masks g → OnwardAll M (Even g)
  level-onward L c h =
      more (backward L c h (at 1 0) (omega arith))
      (more (backward L c h (at 0 1) (omega arith))
      (more (east L c h)
      (more (south L c h) (more (backward L c h (at 0 0) (omega arith)) (more (backward L c h (at 2 0) (omega arith)) (more (south-west L c h) (more (south-east L c h) done)))))))

  -- ---- and back

  module _ (A : OnwardAll M (Even g)) where
    -- the step in direction k of the cell c at (x, y)
    onward-step : (k : ℕ) → k < 8 → (c x y : ℕ) → c ≡ y * M.width + x → x < M.width → y < M.height → is_step M (at x y) (direction_at k) ≡ true → (t : ℕ) → index M (toward (at x y) (direction_at k)) ≡ t → c < t → cut_bit masks c (bit_of (direction_at k)) ≡ false → g t ≡ g c
    unfolding cell_count
    onward-step k i c x y is in_x in_y s t to l free = ap g (sym there) ∙ sym (all-place (at 0 0) (A c inside) k i (ap₂ ◌&&◌ step (ap not (sym (marks c (direction_at k) inside step larger) ∙ free))) larger)
      where
        position : position_of M c ≡ at x y
        position = ap (position_of M) is ∙ position-index M (at x y) in_x

        inside : c < M.height * M.width
        inside = omega (arith, digits_lt in_y in_x)

        step : is_step M (position_of M c) (direction_at k) ≡ true
        step = ap (λ p. is_step M p (direction_at k)) position ∙ s

        there : reached M c (direction_at k) ≡ t
        there = ap (λ p. index M (toward p (direction_at k))) position ∙ to

        larger : c < reached M c (direction_at k)
        larger = omega (arith, there)

    -- the cell c at column x of row y
    walkable_is : (x y c : ℕ) → c ≡ y * M.width + x → x < M.width → y < M.height → walks M.cells c ≡ true → walkable M (at x y) ≡ true
    unfolding walkable
    walkable_is x y c is in_x in_y v = rw (lt-ltb x M.width in_x, lt-ltb y M.height in_y) (ap (walks M.cells) (sym is) ∙ v)

    east-level : (x y c : ℕ) → c ≡ y * M.width + x → x + 1 < M.width → y < M.height → walks M.cells c ≡ true → walks M.cells (c + 1) ≡ true → cut_bit masks c 5 ≡ false → g (c + 1) ≡ g c
    east-level x y c is in_x in_y a b free =
        onward-step 2 (omega arith) c x y is (omega arith) in_y
        (east-step M x y (walkable_is x y c is (omega arith) in_y a) (walkable_is (x + 1) y (c + 1) (omega arith) in_x in_y b))
        (c + 1) (omega (arith, same_row y M.width {k = y + 1 - 1} (omega arith))) (omega arith) free

    module _ (x y c : ℕ) (is : c ≡ y * M.width + x) (in_y : suc y < M.height) where
      -- the row below
      under-row : (y + 1) * M.width ≡ y * M.width + M.width
      under-row = next_row y M.width {k = y + 1} (omega arith)

      under-far : (y + 2 - 1) * M.width ≡ y * M.width + M.width
      under-far = next_row y M.width {k = y + 2 - 1} (omega arith)

      under-walks : x < M.width → walks M.cells (c + M.width) ≡ true → walkable M (at x (y + 1)) ≡ true
      under-walks in_x b = walkable_is x (y + 1) (c + M.width) (omega (arith, under-row)) in_x (omega arith) b

      south-level : x < M.width → walks M.cells c ≡ true → walks M.cells (c + M.width) ≡ true → cut_bit masks c 7 ≡ false → g (c + M.width) ≡ g c
      south-level in_x a b free =
          onward-step 3 (omega arith) c x y is in_x (omega arith)
          (south-step M x y (walkable_is x y c is in_x (omega arith) a) (under-walks in_x b))
          (c + M.width) (omega (arith, under-far)) (omega arith) free

      corner-level : x + 1 < M.width → CornerLevel M.width M.cells masks g c
      corner-level in_x =
          record {
            south_east_lem = λ s free.
                let f = square_at s in
                onward-step 7 (omega arith) c x y is (omega arith) (omega arith) (south_east-step M x y f.0 f.1 f.2 f.3) (c + M.width + 1) (omega (arith, under-far)) (omega arith) free;
            south_west_lem = λ s free.
                let f = square_at s in
                onward-step 6 (omega arith) (c + 1) (x + 1) y (omega arith) in_x (omega arith) (south_west-step M x y f.0 f.1 f.2 f.3) (c + M.width) (omega (arith, under-far)) (omega arith) free;
          }
        where
          square_at : is_square M.width M.cells c ≡ true → (walkable M (at x y) ≡ true) × (walkable M (at (x + 1) y) ≡ true) × (walkable M (at x (y + 1)) ≡ true) × (walkable M (at (x + 1) (y + 1)) ≡ true)
          square_at s =
              let f = square-cells M.width M.cells c s in (
                walkable_is x y c is (omega arith) (omega arith) f.0,
                walkable_is (x + 1) y (c + 1) (omega arith) in_x (omega arith) f.1,
                under-walks (omega arith) f.2,
                walkable_is (x + 1) (y + 1) (c + M.width + 1) (omega (arith, under-row)) in_x (omega arith) f.3,
              )

    pub onward-level : Level M.width M.height M.cells masks g
    onward-level =
        record {
          east = λ y h c low high. east-level (c - y * M.width) y c (omega arith) (omega arith) h;
          south = λ y h c low high. south-level (c - y * M.width) y c (omega arith) h (omega arith);
          corners = λ y h c low high. corner-level (c - y * M.width) y c (omega arith) h (omega arith);
        }
