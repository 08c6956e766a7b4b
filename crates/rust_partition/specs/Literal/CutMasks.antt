-- The first half of `partition_by_spans` (areas.rs) as it is written there: which steps each span removes, and for every cell a mask with a bit for each removed
-- step. Taken from the definitions, where they stand as the Rust writes them: SpanGeometry::new as `canonical` (Grid), `candidate_positions` and `cuts` (Spans).
-- Definitions only. Assumes nothing.
use Rattle.std.specs.Prelude.{ℕ, ◌^◌, Bool, ◌||◌, length, get_or, set, replicate, eqb, leb, pos, ◌+ℤ◌, ◌*ℤ◌, Option, None, Some}
use Rattle.std.proofs.Math.Bool.{not, cond}
use mathlib.Core.List.{List, [], ◌∷◌, ◌++◌}
use Rattle.std.specs.Int.Bits.{bit_and, bit_or}
use Rattle.definitions.specs.Grid.{Map, Position, Segment, Pair, canonical, cell_at, is_walkable}
use Rattle.definitions.specs.Spans.{diff, nat_of, cuts, candidate_positions}
use Rattle.rust_partition.specs.Literal.Neighbors.{index_rust, neighbors_rust}

-- `expect`. (Where there is none the Rust would stop. There always is one: `index-inside`, `index-walkable` of NeighborsAsRust, `candidates-inside` of Candidates.)
abbrev pub expect : Option ℕ → ℕ
expect None = 0
expect (Some n) = n

--     let delta_x = to.x as i64 - from.x as i64;
--     let delta_y = to.y as i64 - from.y as i64;
--     1_u16 << ((delta_y + 1) * 3 + (delta_x + 1))
unfoldable pub edge_bit : Position → Position → ℕ
edge_bit from to =
    let delta_x = diff to.x from.x in
    let delta_y = diff to.y from.y in
    2 ^ nat_of ((delta_y +ℤ pos 1) *ℤ pos 3 +ℤ (delta_x +ℤ pos 1))

-- `cut_masks[index] |= bit`
unfoldable pub or_at : List ℕ → ℕ → ℕ → List ℕ
or_at masks index b = set masks index (bit_or (get_or masks index 0) b)

-- `cut_masks[index] & bit != 0`
unfoldable pub has_bit : List ℕ → ℕ → ℕ → Bool
has_bit masks index b = not (eqb (bit_and (get_or masks index 0) b) 0)

-- `cut_masks` and the `edges` of one span in the loop
pub record Marking : Type 0 where
  pub masks : List ℕ
  pub edges : List Pair

module _ (M : Map) (geometry : Segment) where
  --     let neighbor_index = self.index(neighbor).expect(..);
  --     if index >= neighbor_index || !geometry.cuts(position, neighbor) {
  --         continue;
  --     }
  --     cut_masks[index] |= edge_bit(position, neighbor);
  --     cut_masks[neighbor_index] |= edge_bit(neighbor, position);
  --     edges.push((index, neighbor_index));
  unfoldable pub mark_neighbor : Position → ℕ → Marking → Position → Marking
  unfolding index_rust cuts edge_bit or_at
  mark_neighbor position index s neighbor =
      let neighborIndex = expect (index_rust M neighbor) in
      cond (leb neighborIndex index || not (cuts geometry position neighbor)) s
      (record {
        masks = or_at (or_at s.masks index (edge_bit position neighbor)) neighborIndex (edge_bit neighbor position);
        edges = s.edges ++ (record { lo = index; hi = neighborIndex } ∷ []);
      })

  --     for (neighbor, _) in self.neighbors(position) {
  unfoldable pub mark_neighbors : Position → ℕ → Marking → List Position → Marking
  unfolding mark_neighbor
  mark_neighbors position index s [] = s
  mark_neighbors position index s (neighbor ∷ l) = mark_neighbors position index (mark_neighbor position index s neighbor) l

  --     let index = self.index(position).expect("span candidate must remain in bounds");
  --     if !self.cells[index].walkable {
  --         continue;
  --     }
  unfoldable pub mark_position : Marking → Position → Marking
  unfolding index_rust neighbors_rust mark_neighbors
  mark_position s position =
      let index = expect (index_rust M position) in
      cond (not (is_walkable (cell_at M index))) s (mark_neighbors position index s (neighbors_rust M position))

  --     for position in candidate_positions(geometry, self.width, self.height) {
  unfoldable pub mark_positions : Marking → List Position → Marking
  unfolding mark_position
  mark_positions s [] = s
  mark_positions s (position ∷ l) = mark_positions (mark_position s position) l

-- `cut_masks` and `span_edges`
pub record Removed : Type 0 where
  pub masks : List ℕ
  pub span_edges : List (List Pair)

--     let geometry = SpanGeometry::new(*span);
--     let mut edges = Vec::new();
--     ..
--     span_edges.push(edges);
unfoldable pub remove_by_span : Map → Removed → Segment → Removed
unfolding canonical candidate_positions mark_positions
remove_by_span M r span =
    let geometry = canonical span in
    let marked = mark_positions M geometry (record { masks = r.masks; edges = [] }) (candidate_positions M.width M.height geometry) in
    record { masks = marked.masks; span_edges = r.span_edges ++ (marked.edges ∷ []) }

--     for span in spans {
unfoldable pub remove_by_spans : Map → Removed → List Segment → Removed
unfolding remove_by_span
remove_by_spans M r [] = r
remove_by_spans M r (span ∷ l) = remove_by_spans M (remove_by_span M r span) l

--     let mut cut_masks = vec![0_u16; self.cells.len()];
--     let mut span_edges = Vec::with_capacity(spans.len());
unfoldable pub removed_edges : Map → Removed
unfolding remove_by_spans
removed_edges M = remove_by_spans M (record { masks = replicate (length M.cells) 0; span_edges = [] }) M.spans
