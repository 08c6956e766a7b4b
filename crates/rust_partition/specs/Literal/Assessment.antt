-- `boundary_assessment` (areas.rs) as it is written there: one walk over a span's removed edges that counts the separated ones and pushes their pairs, then a sort and
-- `dedup`. `incident_area_ids` is left out: no list of SPECIFICATION 3 holds it. Taken from the definitions: the sort (Sort; pairs that compare equal are equal, so
-- that every sort gives this list). Definitions only. Assumes nothing.
use Rattle.std.specs.Prelude.{ℕ, ◌+◌, min, max, cond, List, [], ◌∷◌, ◌++◌, length, get_or, eqb}
use Rattle.definitions.specs.Sort.{sort}
use Rattle.definitions.specs.Grid.{Pair, pair_lt, pair_eq}

-- `separated_edge_count` and `region_pairs` in the loop
pub record Walked : Type 0 where
  pub separated : ℕ
  pub pairs : List Pair

--     let left_label = labels[left];
--     let right_label = labels[right];
--     ..
--     if left_label == right_label {
--         continue;
--     }
--     separated_edge_count += 1;
--     region_pairs.push([left_label.min(right_label), left_label.max(right_label)]);
unfoldable pub walk_edge : List ℕ → Walked → Pair → Walked
walk_edge ls w edge =
    let left = get_or ls edge.lo 0 in
    let right = get_or ls edge.hi 0 in
    cond (eqb left right) w (record { separated = w.separated + 1; pairs = w.pairs ++ (record { lo = min left right; hi = max left right } ∷ []) })

--     for &(left, right) in edges {
unfoldable pub walk_edges : List ℕ → Walked → List Pair → Walked
unfolding walk_edge
walk_edges ls w [] = w
walk_edges ls w (edge ∷ edges) = walk_edges ls (walk_edge ls w edge) edges

-- `dedup`: of equal neighbours the first is kept
unfoldable pub dedup_from : Pair → List Pair → List Pair
dedup_from p [] = p ∷ []
dedup_from p (q ∷ l) = cond (pair_eq q p) (dedup_from p l) (p ∷ dedup_from q l)

abbrev pub dedup : List Pair → List Pair
dedup [] = []
dedup (p ∷ l) = dedup_from p l

-- BoundaryAssessment
pub record Assessment : Type 0 where
  pub removed_edge_count : ℕ
  pub separated_edge_count : ℕ
  pub region_pairs : List Pair

--     let mut region_pairs = Vec::new();
--     let mut separated_edge_count = 0_u32;
--     ..
--     region_pairs.sort_unstable();
--     region_pairs.dedup();
--     BoundaryAssessment {
--         removed_edge_count: u32::try_from(edges.len()).expect(..),
--         separated_edge_count,
--         region_pairs,
--         ..
--     }
unfoldable pub boundary_assessment : List Pair → List ℕ → Assessment
unfolding walk_edges sort dedup_from
boundary_assessment edges ls =
    let walked = walk_edges ls (record { separated = 0; pairs = [] }) edges in
    record { removed_edge_count = length edges; separated_edge_count = walked.separated; region_pairs = dedup (sort pair_lt walked.pairs) }
