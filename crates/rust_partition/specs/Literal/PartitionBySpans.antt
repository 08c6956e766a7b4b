-- `partition_by_spans` (areas.rs) as it is written there, of a grid and spans that passed its checks: the removed edges, the components, the assessments.
-- Definitions only. Assumes nothing.
use Rattle.std.specs.Prelude.{ℕ, suc, List, [], ◌∷◌, ◌++◌, map}
use Rattle.definitions.specs.Scan.{concat_map}
use Rattle.definitions.specs.Grid.{Map}
use Rattle.rust_partition.specs.Literal.CutMasks.{removed_edges}
use Rattle.rust_partition.specs.Literal.Components.{Area, components}
use Rattle.rust_partition.specs.Literal.Assessment.{Assessment, boundary_assessment}

-- SpanPartition
pub record SpanPartition : Type 0 where
  pub labels : List ℕ
  pub areas : List Area
  pub boundaries : List Assessment

--     let (labels, areas) = components(self, &cut_masks);
--     let boundaries = span_edges
--         .iter()
--         .map(|edges| boundary_assessment(edges, &labels))
--         .collect();
unfoldable pub partition_by_spans : Map → SpanPartition
unfolding removed_edges components boundary_assessment
partition_by_spans M =
    let removed = removed_edges M in
    let flooded = components M removed.masks in
    let ls = flooded.waiting.labels in
    record { labels = ls; areas = flooded.areas; boundaries = map (λ edges. boundary_assessment edges ls) removed.span_edges }

-- ---- in the layout of SPECIFICATION 3, which is not the Rust's

-- "tallies (2 per span)": removed and separated edge counts
unfoldable pub tallies_held : SpanPartition → List ℕ
unfolding concat_map
tallies_held P = concat_map (λ b. b.removed_edge_count ∷ b.separated_edge_count ∷ []) P.boundaries

-- "pairs (rows of span, smaller, larger)", of the assessments from span s on
unfoldable pub pair_rows_from : ℕ → List Assessment → List ℕ
unfolding concat_map
pair_rows_from s [] = []
pair_rows_from s (b ∷ l) = concat_map (λ p. s ∷ p.lo ∷ p.hi ∷ []) b.region_pairs ++ pair_rows_from (suc s) l

unfoldable pub pair_rows_held : SpanPartition → List ℕ
unfolding pair_rows_from
pair_rows_held P = pair_rows_from 0 P.boundaries
