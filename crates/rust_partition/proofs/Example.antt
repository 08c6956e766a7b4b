-- The literal renderings computed: case J (SPECIFICATION 18), and three small maps, of two regions and of one, in which the diagonal steps matter. Case J meets what the
-- theorems assume (`case_j-grid`), and by them the computed labels are the definitions'. Assumes nothing.
use Rattle.std.specs.Prelude.{ℕ, ◌≡◌, refl, List, [], ◌∷◌}
use Rattle.std.proofs.Common.{arith, sym, ap, ◌∙◌}
use Rattle.definitions.specs.Grid.{Map, Pair, map_of, cell_count}
use Rattle.definitions.specs.Partition.{labels}
use Rattle.definitions.specs.CaseJ.{map_j, pair}
use Rattle.rust_partition.specs.Literal.Components.{Area}
use Rattle.rust_partition.specs.Literal.Assessment.{Assessment}
use Rattle.rust_partition.specs.Literal.PartitionBySpans.{SpanPartition, partition_by_spans}
use Rattle.rust_partition.proofs.PartitionAsRust.{Grid, rust_labels}

abbrev area : ℕ → ℕ → Area
area id count = record { id = id; cell_count = count }

-- removed edges, separated edges, pairs
abbrev assessment : ℕ → ℕ → List Pair → Assessment
assessment removed separated pairs = record { removed_edge_count = removed; separated_edge_count = separated; region_pairs = pairs }

abbrev result : List ℕ → List Area → List Assessment → SpanPartition
result ls areas boundaries = record { labels = ls; areas = areas; boundaries = boundaries }

-- a map with no boundaries and no anchors
abbrev cut : ℕ → ℕ → List ℕ → List ℕ → Map
cut w h cells spans = map_of w h cells spans [] []

pub case_j : partition_by_spans map_j ≡ result
    (0 ∷ 1 ∷ 0 ∷ 0 ∷ 2 ∷ 3 ∷ 4 ∷ 5 ∷ 0 ∷ 0 ∷ 6 ∷ 0 ∷ [])
    (area 1 1 ∷ area 2 1 ∷ area 3 1 ∷ area 4 1 ∷ area 5 1 ∷ area 6 1 ∷ [])
    (assessment 1 1 (pair 3 4 ∷ []) ∷ assessment 1 1 (pair 2 3 ∷ []) ∷ assessment 1 1 (pair 1 3 ∷ []) ∷ assessment 1 1 (pair 4 5 ∷ []) ∷ assessment 1 1 (pair 4 6 ∷ []) ∷ [])
unfolding partition_by_spans map_j
case_j = refl

case_j-grid : Grid map_j
unfolding map_j cell_count
case_j-grid = record { wide = omega arith; tall = omega arith; cells = refl }

pub case_j-labels : labels map_j ≡ 0 ∷ 1 ∷ 0 ∷ 0 ∷ 2 ∷ 3 ∷ 4 ∷ 5 ∷ 0 ∷ 0 ∷ 6 ∷ 0 ∷ []
case_j-labels = sym (rust_labels map_j case_j-grid) ∙ ap (λ r. r.labels) case_j

-- two cells at a corner, with both side cells blocked: no step joins them
pub corner : partition_by_spans (cut 2 2 (1 ∷ 0 ∷ 0 ∷ 1 ∷ []) []) ≡ result (1 ∷ 0 ∷ 0 ∷ 2 ∷ []) (area 1 1 ∷ area 2 1 ∷ []) []
unfolding partition_by_spans map_of
corner = refl

-- two regions: one span removes two straight steps and two diagonal ones, all between the same two regions
pub two_regions : partition_by_spans (cut 3 2 (1 ∷ 1 ∷ 0 ∷ 1 ∷ 1 ∷ 1 ∷ []) (8 ∷ 0 ∷ 8 ∷ 16 ∷ [])) ≡ result (1 ∷ 2 ∷ 0 ∷ 1 ∷ 2 ∷ 2 ∷ []) (area 1 2 ∷ area 2 3 ∷ []) (assessment 4 4 (pair 1 2 ∷ []) ∷ [])
unfolding partition_by_spans map_of
two_regions = refl

-- three short spans remove three of the four straight steps of a square: the diagonal steps still join it
pub diagonals_join : partition_by_spans (cut 2 2 (1 ∷ 1 ∷ 1 ∷ 1 ∷ []) (8 ∷ 2 ∷ 8 ∷ 6 ∷ 8 ∷ 10 ∷ 8 ∷ 14 ∷ 2 ∷ 8 ∷ 6 ∷ 8 ∷ [])) ≡ result (1 ∷ 1 ∷ 1 ∷ 1 ∷ []) (area 1 4 ∷ []) (assessment 1 0 [] ∷ assessment 1 0 [] ∷ assessment 1 0 [] ∷ [])
unfolding partition_by_spans map_of
diagonals_join = refl
