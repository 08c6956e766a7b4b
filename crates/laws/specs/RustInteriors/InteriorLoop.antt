-- Pass 2 whole as the Rust writes it, `collapse_ramp_interiors` of ramp_boundaries.rs, from its steps in the files before: the loop over the starts, the `retain`, the
-- sort and the selection. Definitions only. Assumes nothing.
use Prim.Native.Nat.{ℕ, compare, Ordering}
use Rattle.std.specs.Prelude.{cond, List, [], ◌∷◌, ◌++◌, Option, None}
use Rattle.definitions.specs.Scan.{member, filter, to_list}
use Rattle.definitions.specs.Sort.{sort}
use Rattle.definitions.specs.Context.{Context}
use Rattle.laws.specs.OrderLaws.Orderings.{is_less, then_with}
use Rattle.laws.specs.RustContext.CompareBoundaries.{compare_boundaries}
use Rattle.laws.specs.RustInteriors.DepthFirstLiteral.{Search, graph_keys, search_from}
use Rattle.laws.specs.RustInteriors.ComponentLiteral.{is_passed_over, leaves_component, ports_from}
use Rattle.laws.specs.RustInteriors.InteriorLiteral.{from_ports, is_retained}
use Rattle.laws.specs.RustInteriors.Selection2.{InteriorRust, removed_rust}

module _ (C : Context) where
  --     if edges.is_empty() || .. {
  --         continue;
  --     }
  --     if edges.iter().any(..) {
  --         continue;
  --     }
  --     let mut ports = BTreeSet::new();
  --     ..
  unfoldable pub from_search : Search → Option InteriorRust
  from_search found =
      cond (is_passed_over C found.regions found.edges) None
      (cond (leaves_component C found.regions found.edges) None (from_ports C found.regions found.edges (ports_from C found.edges [] found.regions)))

  --     for start in graph.keys().copied().collect::<Vec<_>>() {
  --         if !visited.insert(start) {
  --             continue;
  --         }
  unfoldable pub over_starts : List ℕ → List ℕ → List InteriorRust
  over_starts visited [] = []
  over_starts visited (start ∷ starts) =
      cond (member start visited) (over_starts visited starts) (to_list (from_search (search_from C visited start)) ++ over_starts (search_from C visited start).visited starts)

  -- the proposals, before they are sorted
  --     let mut visited = BTreeSet::new();
  --     ..
  --     proposals.retain(|proposal| ..);
  unfoldable pub proposals_rust : List InteriorRust
  proposals_rust = filter (is_retained C) (over_starts [] (graph_keys C))

  --     left.ramp_id.cmp(&right.ramp_id).then_with(|| {
  --         endpoints(&boundaries[left.ports[0]]).cmp(&endpoints(&boundaries[right.ports[0]]))
  --     })
  unfoldable pub compare_interiors : InteriorRust → InteriorRust → Ordering
  compare_interiors left right = then_with (compare left.ramp_id right.ramp_id) (compare_boundaries (C.boundary left.first_port).endpoints (C.boundary right.first_port).endpoints)

  --     proposals.sort_by(|left, right| ..);
  unfoldable pub sort_interiors : List InteriorRust → List InteriorRust
  sort_interiors l = sort (λ left right. is_less (compare_interiors left right)) l

  -- the boundaries that the pass removes
  unfoldable pub removed_set : List ℕ
  removed_set = removed_rust (sort_interiors proposals_rust)
