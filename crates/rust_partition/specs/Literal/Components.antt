-- `components` (areas.rs) as it is written there: the flood, with its queue and its labels by first cell. The `while` loop is given a bound on its rounds, which it
-- never meets (FloodRounds: each cell is queued once). Definitions only. Assumes nothing.
use Prim.Native.Nat.{ℕ, zero, suc, ◌+◌}
use Rattle.std.proofs.Math.Bool.{not, cond}
use Rattle.std.specs.Prelude.{◌||◌, get_or, eqb}
use mathlib.Core.List.{List, [], ◌∷◌, ◌++◌}
use Rattle.std.proofs.Math.ListN.{length, set, replicate}
use Rattle.definitions.specs.Scan.{run}
use Rattle.definitions.specs.Grid.{Map, Position, position_of, cell_at, is_walkable}
use Rattle.rust_partition.specs.Literal.Neighbors.{index_rust, neighbors_rust}
use Rattle.rust_partition.specs.Literal.CutMasks.{expect, edge_bit, has_bit}

-- `labels` and `queue`, its front first
pub record Waiting : Type 0 where
  pub labels : List ℕ
  pub queue : List ℕ

-- `labels`, `queue` and `cell_count` while a region is flooded
pub record Flooding : Type 0 where
  pub waiting : Waiting
  pub cell_count : ℕ

-- PartitionArea
pub record Area : Type 0 where
  pub id : ℕ
  pub cell_count : ℕ

-- `labels`, `queue` and `areas`
pub record Components : Type 0 where
  pub waiting : Waiting
  pub areas : List Area

module _ (M : Map) (cutMasks : List ℕ) where
  --     let neighbor_index = grid.index(neighbor).expect(..);
  --     if cut_masks[index] & edge_bit(position, neighbor) != 0
  --         || labels[neighbor_index] != 0
  --     {
  --         continue;
  --     }
  --     labels[neighbor_index] = id;
  --     queue.push_back(neighbor_index);
  unfoldable pub visit_neighbor : ℕ → ℕ → Position → Waiting → Position → Waiting
  unfolding index_rust edge_bit has_bit
  visit_neighbor id index position s neighbor =
      let neighborIndex = expect (index_rust M neighbor) in
      cond (has_bit cutMasks index (edge_bit position neighbor) || not (eqb (get_or s.labels neighborIndex 0) 0)) s
      (record { labels = set s.labels neighborIndex id; queue = s.queue ++ (neighborIndex ∷ []) })

  --     for (neighbor, _) in grid.neighbors(position) {
  unfoldable pub visit_neighbors : ℕ → ℕ → Position → Waiting → List Position → Waiting
  unfolding visit_neighbor
  visit_neighbors id index position s [] = s
  visit_neighbors id index position s (neighbor ∷ l) = visit_neighbors id index position (visit_neighbor id index position s neighbor) l

  -- `queue.pop_front()`: the loop ends, or goes on with a cell
  abbrev pub pop_front : List ℕ → Flooding → (ℕ → List ℕ → Flooding) → Flooding
  pop_front [] s next = s
  pop_front (index ∷ rest) s next = next index rest

  --     while let Some(index) = queue.pop_front() {
  --         cell_count += 1;
  --         let position = grid.position(index);
  unfoldable pub drain : ℕ → ℕ → Flooding → Flooding
  unfolding neighbors_rust visit_neighbors
  drain zero id s = s
  drain (suc rounds) id s =
      pop_front s.waiting.queue s
      (λ index rest.
      let position = position_of M index in
      drain rounds id
      (record {
        waiting = visit_neighbors id index position (record { labels = s.waiting.labels; queue = rest }) (neighbors_rust M position);
        cell_count = s.cell_count + 1;
      }))

  --     if !grid.cells[start].walkable || labels[start] != 0 {
  --         continue;
  --     }
  --     let id = u32::try_from(areas.len() + 1).expect(..);
  --     let mut cell_count = 0_u32;
  --     labels[start] = id;
  --     queue.push_back(start);
  --     ..
  --     areas.push(PartitionArea { id, cell_count });
  unfoldable pub flood_from : Components → ℕ → Components
  unfolding drain
  flood_from s start =
      let id = length s.areas + 1 in
      let begun : Waiting = record { labels = set s.waiting.labels start id; queue = s.waiting.queue ++ (start ∷ []) } in
      let flooded = drain (length M.cells) id (record { waiting = begun; cell_count = 0 }) in
      let more : Components = record { waiting = flooded.waiting; areas = s.areas ++ (record { id = id; cell_count = flooded.cell_count } ∷ []) } in
      cond (not (is_walkable (cell_at M start)) || not (eqb (get_or s.waiting.labels start 0) 0)) s more

  --     for start in 0..grid.cells.len() {
  unfoldable pub flood_all : Components → List ℕ → Components
  unfolding flood_from
  flood_all s [] = s
  flood_all s (start ∷ l) = flood_all (flood_from s start) l

  --     let mut labels = vec![0_u32; grid.cells.len()];
  --     let mut areas = Vec::new();
  --     let mut queue = VecDeque::new();
  --     ..
  --     (labels, areas)
  unfoldable pub components : Components
  unfolding flood_all run
  components = flood_all (record { waiting = record { labels = replicate (length M.cells) 0; queue = [] }; areas = [] }) (run 0 (length M.cells))
