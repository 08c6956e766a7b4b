-- `index`, `cell` and `neighbors` of TerrainGrid (lib.rs) as they are written there. A grid is a map's sides and its list of cells, a byte each; what the Rust
-- reads of a cell here is whether it is walkable (`is_walkable`, Grid). The cost that `neighbors` gives with a cell is left out: the partition drops it. No sum or product
-- of the Rust leaves its type, since sides are at most 1,024. Definitions only. Assumes nothing.
use Rattle.std.specs.Prelude.{ℕ, suc, ◌+◌, ◌-◌, ◌*◌, Bool, not, ◌&&◌, ◌||◌, false, cond, List, [], ◌∷◌, ◌++◌, length, ltb, leb, ℤ, pos, negsuc, Option, None, Some, slice_get}
use Rattle.definitions.specs.Scan.{to_list, only_if}
use Rattle.definitions.specs.Grid.{Map, Position, at, is_walkable}
use Rattle.definitions.specs.Spans.{is_zero}

-- ---- of the Rust's library

module _ {A : Type 0} where
  -- `?`, `and_then`
  abbrev pub and_then : {B : Type 0} → Option A → (A → Option B) → Option B
  and_then None f = None
  and_then (Some a) f = f a

  -- `is_some_and`
  abbrev pub is_some_and : Option A → (A → Bool) → Bool
  is_some_and None f = false
  is_some_and (Some a) f = f a

  unfoldable pub filter_map : {B : Type 0} → (A → Option B) → List A → List B
  filter_map f [] = []
  filter_map f (a ∷ l) = to_list (f a) ++ filter_map f l

-- of an unsigned and a signed number: none where the sum is below zero
abbrev pub checked_add_signed : ℕ → ℤ → Option ℕ
checked_add_signed n (pos d) = Some (n + d)
checked_add_signed n (negsuc d) = only_if (ltb d n) (n - suc d)

-- ---- of the grid

--     if position.x >= self.width || position.y >= self.height {
--         return None;
--     }
--     let index = (position.y as usize)
--         .checked_mul(self.width as usize)?
--         .checked_add(position.x as usize)?;
--     (index < self.cells.len()).then_some(index)
unfoldable pub index_rust : Map → Position → Option ℕ
index_rust M position =
    let index = position.y * M.width + position.x in
    cond (leb M.width position.x || leb M.height position.y) None (only_if (ltb index (length M.cells)) index)

--     self.index(position).and_then(|index| self.cells.get(index))
unfoldable pub cell_rust : Map → Position → Option ℕ
unfolding index_rust
cell_rust M position = and_then (index_rust M position) (slice_get M.cells)

-- `(delta_x, delta_y)`
pub record Delta : Type 0 where
  pub delta_x : ℤ
  pub delta_y : ℤ

abbrev pub delta : ℤ → ℤ → Delta
delta x y = record { delta_x = x; delta_y = y }

abbrev pub minus_one : ℤ
minus_one = negsuc 0

--     const DIRECTIONS: [(i32, i32); 8] = [
--         (0, -1),
--         (-1, 0),
--         (1, 0),
--         (0, 1),
--         (-1, -1),
--         (1, -1),
--         (-1, 1),
--         (1, 1),
--     ];
abbrev pub deltas : List Delta
deltas =
    delta (pos 0) minus_one
    ∷ delta minus_one (pos 0)
    ∷ delta (pos 1) (pos 0)
    ∷ delta (pos 0) (pos 1)
    ∷ delta minus_one minus_one
    ∷ delta (pos 1) minus_one
    ∷ delta minus_one (pos 1)
    ∷ delta (pos 1) (pos 1)
    ∷ []

--     if !next_cell.walkable {
--         return None;
--     }
--     let diagonal = delta_x != 0 && delta_y != 0;
--     if diagonal {
--         let side_a = WalkPosition { x, y: position.y };
--         let side_b = WalkPosition { x: position.x, y };
--         if !self.cell(side_a).is_some_and(|cell| cell.walkable)
--             || !self.cell(side_b).is_some_and(|cell| cell.walkable)
--         {
--             return None;
--         }
--     }
--     Some((next, ..))
unfoldable pub reachable : Map → Position → Delta → Position → ℕ → Option Position
unfolding cell_rust
reachable M position d next nextCell =
    let diagonal = not (is_zero d.delta_x) && not (is_zero d.delta_y) in
    let sideA = at next.x position.y in
    let sideB = at position.x next.y in
    cond (not (is_walkable nextCell)) None
    (cond (diagonal && (not (is_some_and (cell_rust M sideA) is_walkable) || not (is_some_and (cell_rust M sideB) is_walkable))) None (Some next))

--     |(delta_x, delta_y)| {
--         let x = position.x.checked_add_signed(delta_x)?;
--         let y = position.y.checked_add_signed(delta_y)?;
--         let next = WalkPosition { x, y };
--         let next_cell = self.cell(next)?;
unfoldable pub neighbor_rust : Map → Position → Delta → Option Position
unfolding cell_rust reachable
neighbor_rust M position d =
    and_then (checked_add_signed position.x d.delta_x) (λ x. and_then (checked_add_signed position.y d.delta_y) (λ y. and_then (cell_rust M (at x y)) (reachable M position d (at x y))))

--     DIRECTIONS
--         .into_iter()
--         .filter_map(..)
unfoldable pub neighbors_rust : Map → Position → List Position
unfolding filter_map neighbor_rust
neighbors_rust M position = filter_map (neighbor_rust M position) deltas
