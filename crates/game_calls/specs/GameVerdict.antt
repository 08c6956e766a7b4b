-- The answer of the call that plays on the kept graph, to every input (document 02, request 14; document 01's table). 16 is that of running to rest (RestVerdict of
-- rest_definitions). 11 and 12 come of the first partition alone (SecondPartition). Definitions only; assumes nothing.
use Rattle.std.specs.Prelude.{ℕ, ◌/◌, ◌&&◌, cond, [], ◌∷◌, length, eqb, leb}
use Rattle.definitions.specs.Limits.{numbers_per_span, numbers_per_boundary, numbers_per_anchor}
use Rattle.definitions.specs.Partition.{region_count}
use Rattle.definitions.specs.Rows.{rows_of}
use Rattle.definitions.specs.Refusals.{unless, sides_fault, cells_fault, is_whole, pass_fault, spans_refusal, boundaries_fault, anchors_fault, elevations_fault, output_room}
use Rattle.definitions.specs.Verdict.{Lent, Answer, map_in, refusal, first_refusal, records_fault, pairs_fault, partition_has_room}
use Rattle.rest_definitions.specs.RestVerdict.{lists_fault}
use Rattle.game.specs.Graph.{verdicts_room, graph_fault, goal_fault}
use Rattle.game_calls.specs.KeptGraph.{graph_map}

-- number 0, how many rows are kept, and the regions of the kept graph; or a refusal's number and place, and no region
pub record GameAnswer : Type 0 where
  pub number : ℕ
  pub value : ℕ
  pub regions : ℕ

abbrev pub with_regions : Answer → ℕ → GameAnswer
with_regions a regions = record { number = a.number; value = a.value; regions = cond (eqb a.number 0) regions 0 }

-- Beside what a pass is lent: the goal, and how long the list of verdicts is, which has room for the largest graph. "16 as for running to rest, but after 4; 23 for
-- more than 32 regions, 24 for a goal outside the graph, in that order".
unfoldable pub game_verdict : Lent → ℕ → ℕ → GameAnswer
unfolding map_in lists_fault spans_refusal boundaries_fault anchors_fault elevations_fault records_fault pairs_fault graph_map region_count rows_of
game_verdict L goal verdicts =
    let w = L.width in
    let h = L.height in
    let M = map_in L in
    let regions = region_count (graph_map L.pass M) in
    let kept = length (rows_of L.pass M) in
    with_regions
    (first_refusal
    (refusal 1 (sides_fault w h)
    ∷ refusal 2 (cells_fault w h L.cells)
    ∷ refusal 3 (unless (is_whole numbers_per_span L.spans && is_whole numbers_per_boundary L.boundaries && is_whole numbers_per_anchor L.anchors))
    ∷ refusal 4 (pass_fault L.pass)
    ∷ refusal 16 (lists_fault L.spans L.boundaries)
    ∷ spans_refusal w h L.spans
    ∷ refusal 7 (boundaries_fault w h L.boundaries)
    ∷ refusal 8 (anchors_fault w h L.anchors)
    ∷ refusal 9 (elevations_fault L.cells)
    ∷ refusal 10 (unless (partition_has_room L && output_room (length L.boundaries / numbers_per_boundary) (length L.output) && leb verdicts_room verdicts))
    ∷ refusal 11 (records_fault L M)
    ∷ refusal 12 (pairs_fault L M)
    ∷ refusal 23 (graph_fault regions)
    ∷ refusal 24 (goal_fault regions goal)
    ∷ [])
    kept)
    regions
