-- What follows of a call that met its contract (`Played`) and was accepted: its regions are those of the kept graph, its rows the pass's (`played-regions`,
-- `played-rows`), and each entry of the lent verdicts is the one over all ways of play (`played-entries`). Nothing is assumed of the lists that the call fills.
use Rattle.std.specs.Prelude.{ℕ, ◌/◌, ◌≡◌, ◌&&◌, List, [], ◌∷◌, ◌++◌, leb, Option}
use Rattle.std.proofs.Common.{arith, sym, ◌∙◌}
use Rattle.std.proofs.Math.Path.{ap}
use Rattle.std.proofs.Math.ListN.{length, drop}
use Rattle.definitions.specs.Limits.{numbers_per_span, numbers_per_boundary, numbers_per_anchor}
use Rattle.definitions.specs.Partition.{region_count}
use Rattle.definitions.specs.RegionRecord.{Region}
use Rattle.definitions.specs.Rows.{rows_of, flat_rows}
use Rattle.definitions.specs.Refusals.{Refusal, unless, sides_fault, cells_fault, is_whole, pass_fault, spans_refusal, boundaries_fault, anchors_fault, elevations_fault, output_room}
use Rattle.definitions.specs.Verdict.{Lent, map_in, refusal, records_fault, pairs_fault, partition_has_room}
use Rattle.laws.specs.ListLaws.Lists.{All, done, more}
use Rattle.laws.specs.ListLaws.FlatRows.{rows_in_lem, rows_of-flat}
use Rattle.rest_definitions.specs.RestVerdict.{lists_fault}
use Rattle.laws.specs.TableLaws.AcceptedCalls.{Numbered, refusal-numbered, spans-numbered, none_refused}
use Rattle.rest.specs.InnerCalls.{all_none}
use Rattle.game.specs.Game.{Game, Place, Inside}
use Rattle.game.specs.Play.{Verdict, Judged}
use Rattle.game.specs.Graph.{verdicts_room, graph_fault, goal_fault}
use Rattle.game.specs.EntryLaws.{number_of, Entry}
use Rattle.game.proofs.EntryLaws.{entries-filled, written}
use Rattle.game_calls.specs.KeptGraph.{graph_map, kept_game}
use Rattle.game_calls.specs.GameVerdict.{GameAnswer, with_regions, game_verdict}
use Rattle.game_calls.specs.GameExit.{game_stage, game_exit, Played}

-- ---- an accepted call

module _ (L : Lent) (goal verdicts : ℕ) where
  abbrev regions : ℕ
  regions = region_count (graph_map L.pass (map_in L))

  -- the checks of `game_verdict`, in its order
  abbrev checks : List (Option Refusal)
  checks =
      refusal 1 (sides_fault L.width L.height)
      ∷ refusal 2 (cells_fault L.width L.height L.cells)
      ∷ refusal 3 (unless (is_whole numbers_per_span L.spans && is_whole numbers_per_boundary L.boundaries && is_whole numbers_per_anchor L.anchors))
      ∷ refusal 4 (pass_fault L.pass)
      ∷ refusal 16 (lists_fault L.spans L.boundaries)
      ∷ spans_refusal L.width L.height L.spans
      ∷ refusal 7 (boundaries_fault L.width L.height L.boundaries)
      ∷ refusal 8 (anchors_fault L.width L.height L.anchors)
      ∷ refusal 9 (elevations_fault L.cells)
      ∷ refusal 10 (unless (partition_has_room L && output_room (length L.boundaries / numbers_per_boundary) (length L.output) && leb verdicts_room verdicts))
      ∷ refusal 11 (records_fault L (map_in L))
      ∷ refusal 12 (pairs_fault L (map_in L))
      ∷ refusal 23 (graph_fault regions)
      ∷ refusal 24 (goal_fault regions goal)
      ∷ []

  checks-numbered : All Numbered checks
  checks-numbered =
      more (refusal-numbered 1 (sides_fault L.width L.height) (omega arith))
      (more (refusal-numbered 2 (cells_fault L.width L.height L.cells) (omega arith))
      (more (refusal-numbered 3 (unless (is_whole numbers_per_span L.spans && is_whole numbers_per_boundary L.boundaries && is_whole numbers_per_anchor L.anchors)) (omega arith))
      (more (refusal-numbered 4 (pass_fault L.pass) (omega arith))
      (more (refusal-numbered 16 (lists_fault L.spans L.boundaries) (omega arith))
      (more (spans-numbered L.width L.height L.spans)
      (more (refusal-numbered 7 (boundaries_fault L.width L.height L.boundaries) (omega arith))
      (more (refusal-numbered 8 (anchors_fault L.width L.height L.anchors) (omega arith))
      (more (refusal-numbered 9 (elevations_fault L.cells) (omega arith))
      (more (refusal-numbered 10 (unless (partition_has_room L && output_room (length L.boundaries / numbers_per_boundary) (length L.output) && leb verdicts_room verdicts)) (omega arith))
      (more (refusal-numbered 11 (records_fault L (map_in L)) (omega arith))
      (more (refusal-numbered 12 (pairs_fault L (map_in L)) (omega arith)) (more (refusal-numbered 23 (graph_fault regions) (omega arith)) (more (refusal-numbered 24 (goal_fault regions goal) (omega arith)) done)))))))))))))

  -- an accepted call answers with its count of rows and its regions
  pub accepted-answer : (game_verdict L goal verdicts).number ≡ 0
      → game_verdict L goal verdicts ≡ record { number = 0; value = length (rows_of L.pass (map_in L)); regions = regions }
  unfolding game_verdict
  accepted-answer h =
      let kept = length (rows_of L.pass (map_in L)) in
      ap (λ b. with_regions b regions) (all_none kept (none_refused kept checks-numbered h))

-- ---- what it left

module _ {L : Lent} {goal : ℕ} {v : List ℕ} {a : GameAnswer} {l m q t p : List ℕ} {s : List Region} {o v' : List ℕ}
    (played : Played L goal v a l m q t p s o v') (success : a.number ≡ 0) where
  abbrev G : Game
  G = kept_game L.pass (map_in L) goal

  answers : a ≡ record { number = 0; value = length (rows_of L.pass (map_in L)); regions = region_count (graph_map L.pass (map_in L)) }
  answers = played.answer ∙ accepted-answer L goal (length v) (sym (ap (λ (b : GameAnswer). b.number) played.answer) ∙ success)

  -- the graph has the regions that the answer counts
  pub played-regions : a.regions ≡ G.regions
  unfolding kept_game
  played-regions = ap (λ (b : GameAnswer). b.regions) answers

  -- the output holds the rows that the pass keeps, as many as the answer counts
  pub played-rows : rows_in_lem a.value o ≡ rows_of L.pass (map_in L)
  unfolding game_exit game_stage
  played-rows =
      let rows = rows_of L.pass (map_in L) in
      let count : a.value ≡ length rows = ap (λ (b : GameAnswer). b.value) answers in
      let front : o ≡ flat_rows rows ++ drop (length (flat_rows rows)) L.output = played.output ∙ ap (λ n. (game_exit L n).output) success in
      rw (count, front) (rows_of-flat rows (drop (length (flat_rows rows)) L.output))

  -- "Say for every place of both and either to move who can force a win [..]": the three numbers of each place, over all ways of play
  pub played-entries : (x : Place) → Inside G x → (w : Verdict) × Judged G x w × Entry v' (number_of G x) w
  played-entries = entries-filled G v v' (written G v v' a.number played.verdicts success)
