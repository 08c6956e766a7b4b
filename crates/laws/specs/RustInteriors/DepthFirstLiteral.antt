-- The graph of ordinary full cuts and the depth-first search for a component in `collapse_ramp_interiors` (ramp_boundaries.rs), as they are written there. The
-- `while` loop is given a bound on its rounds, which it never meets (DepthFirst). Definitions only. Assumes nothing.
use Rattle.std.specs.Prelude.{ℕ, zero, suc, Bool, ◌&&◌, cond, List, [], ◌∷◌, ◌++◌, eqb}
use Rattle.definitions.specs.Scan.{member, gather, concat_map, to_list, only_if}
use Rattle.definitions.specs.Grid.{Pair}
use Rattle.definitions.specs.Context.{Context}
use Rattle.definitions.specs.MouthShapes.{regions_of}
use Rattle.laws.specs.SetLaws.Sets.{set_insert, set_extend}
use Rattle.laws.specs.RustMouths.MouthLiteral.{is_none, full_cut_at, ramp_of}

-- `(neighbor, index)`
pub record Link : Type 0 where
  pub neighbor : ℕ
  pub index : ℕ

-- of what one pair pushes, that which it pushes at `region`
--     graph.entry(*left).or_default().push((*right, index));
--     graph.entry(*right).or_default().push((*left, index));
abbrev pub links_of : ℕ → ℕ → Pair → List Link
links_of region index pair =
    to_list (only_if (eqb pair.lo region) (record { neighbor = pair.hi; index = index }))
    ++ to_list (only_if (eqb pair.hi region) (record { neighbor = pair.lo; index = index }))

module _ (C : Context) where
  --     boundaries[index].ramp.is_none() && full_cut(entry)
  abbrev pub is_joining : ℕ → Bool
  is_joining index = is_none (ramp_of C index) && full_cut_at C index

  -- `graph[&region]`
  --     for (index, entry) in metadata.iter().enumerate() {
  --         if .. {
  --             for [left, right] in &entry.region_pairs {
  unfoldable pub graph_at : ℕ → List Link
  graph_at region = gather C.count (λ index. cond (is_joining index) (concat_map (links_of region index) (C.pairs index)) [])

  -- `graph.keys()`: each push makes an entry for its region
  unfoldable pub graph_keys : List ℕ
  graph_keys = set_extend [] (gather C.count (λ index. cond (is_joining index) (regions_of (C.pairs index)) []))

-- `todo` has the region that was pushed last first
pub record Search : Type 0 where
  pub visited : List ℕ
  pub regions : List ℕ
  pub edges : List ℕ
  pub todo : List ℕ

--     edges.insert(index);
--     if visited.insert(neighbor) {
--         regions.insert(neighbor);
--         todo.push(neighbor);
--     }
-- of a neighbor that `visited` has, and of one that it has not
abbrev pub seen_again : Search → Link → Search
seen_again s link = record { visited = s.visited; regions = s.regions; edges = set_insert s.edges link.index; todo = s.todo }

abbrev pub seen_first : Search → Link → Search
seen_first s link =
    record {
      visited = set_insert s.visited link.neighbor;
      regions = set_insert s.regions link.neighbor;
      edges = set_insert s.edges link.index;
      todo = link.neighbor ∷ s.todo;
    }

unfoldable pub visit_link : Search → Link → Search
visit_link s link = cond (member link.neighbor s.visited) (seen_again s link) (seen_first s link)

--     for &(neighbor, index) in &graph[&region] {
unfoldable pub visit_links : Search → List Link → Search
visit_links s [] = s
visit_links s (link ∷ links) = visit_links (visit_link s link) links

abbrev pub with_todo : List ℕ → Search → Search
with_todo todo s = record { visited = s.visited; regions = s.regions; edges = s.edges; todo = todo }

-- `todo.pop()`: the loop ends, or goes on with a region
abbrev pub popped : List ℕ → Search → (ℕ → List ℕ → Search) → Search
popped [] s next = s
popped (region ∷ rest) s next = next region rest

module _ (C : Context) where
  --     while let Some(region) = todo.pop() {
  unfoldable pub search_for : ℕ → Search → Search
  search_for zero s = s
  search_for (suc rounds) s = popped s.todo s (λ region rest. search_for rounds (visit_links (with_todo rest s) (graph_at C region)))

  -- from a start that `visited` has not
  --     visited.insert(start)
  --     let mut regions = BTreeSet::from([start]);
  --     let mut edges = BTreeSet::new();
  --     let mut todo = vec![start];
  unfoldable pub search_from : List ℕ → ℕ → Search
  search_from visited start =
      search_for (suc (suc C.regions))
      (record { visited = set_insert visited start; regions = set_insert [] start; edges = []; todo = start ∷ [] })
