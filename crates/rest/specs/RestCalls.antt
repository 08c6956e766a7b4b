-- The contract of the call that runs to rest (`RestRan`), and what follows of calls that met it. Of one: its output holds the printed rows
-- (`rest_rows-held`), and its rounds are those of the request, at most 257 (`rest-rounds`). Of two: the island's rows are alike (`rest-island_calls`,
-- `rest-island-lent_calls`). Nothing is assumed of the lists that the calls fill.
use Rattle.std.specs.Prelude.{ℕ, ◌%◌, ◌/◌, ◌≤◌, ◌≡◌, Bool, true, ◌&&◌, List, ◌++◌, map, eqb, leb}
use Rattle.std.proofs.Common.{arith, sym, ◌∙◌, leb-true}
use Rattle.std.proofs.Math.Path.{ap, subst}
use Rattle.std.proofs.Math.ListN.{length, drop}
use Rattle.definitions.specs.Limits.{numbers_per_span, numbers_per_boundary, numbers_per_anchor}
use Rattle.definitions.specs.Scan.{run}
use Rattle.definitions.specs.Grid.{Map}
use Rattle.definitions.specs.RegionRecord.{Region}
use Rattle.definitions.specs.Rows.{Row, flat_rows}
use Rattle.definitions.specs.Refusals.{is_whole}
use Rattle.definitions.specs.Verdict.{Lent, map_in}
use Rattle.definitions.specs.AtExit.{stage_of}
use Rattle.laws.specs.ListLaws.FlatRows.{rows_in_lem, rows_of-flat}
use Rattle.laws.specs.ListLaws.Tests.{both}
use Rattle.laws.specs.TableLaws.KeptRows.{boundary_count_lem}
use Rattle.island.specs.Premises.{cuts_island, rank_of, island_only}
use Rattle.rest_definitions.specs.RowOrder.{start_map}
use Rattle.rest_definitions.specs.Rest.{rested, rest_rows, rounds_of}
use Rattle.rest_definitions.specs.RestVerdict.{RestAnswer, rest_verdict}
use Rattle.rest_definitions.specs.RestExit.{rest_exit}
use Rattle.rest.specs.Rounds.{Rests, rested-rests, rounds_257}
use Rattle.rest.specs.StartMaps.{start-boundaries}
use Rattle.rest.specs.Runs.{numbered, printed}
use Rattle.rest.specs.IslandRest.{final_rows}
use Rattle.rest.specs.PrintedIsland.{printed_island}
use Rattle.rest.specs.KeptAlike.{has_row, number_at}
use Rattle.rest.specs.AcceptedRuns.{rest-accepted, accepted-answer}

-- what was lent, the answer, and at exit labels l, masks m, queue q, tallies t, pairs p, records s and output o
pub record RestRan (L : Lent) (a : RestAnswer) (l m q t p : List ℕ) (s : List Region) (o : List ℕ) : Type 0 where
  pub answer : a ≡ rest_verdict L
  pub labels : l ≡ (rest_exit L a.number).labels
  pub masks : m ≡ (rest_exit L a.number).masks
  pub queue : q ≡ (rest_exit L a.number).queue
  pub tallies : t ≡ (rest_exit L a.number).tallies
  pub pairs : p ≡ (rest_exit L a.number).pairs
  pub records : s ≡ (rest_exit L a.number).records
  pub output : o ≡ (rest_exit L a.number).output

pub accepted-rounds : (L : Lent) → (rest_verdict L).number ≡ 0 → (rest_verdict L).rounds ≤ 257
unfolding rounds_of
accepted-rounds L h =
    let A = (rest-accepted L h).checked in
    let p = both (is_whole numbers_per_span L.spans && is_whole numbers_per_boundary L.boundaries) (is_whole numbers_per_anchor L.anchors) A.whole in
    let q = both (is_whole numbers_per_span L.spans) (is_whole numbers_per_boundary L.boundaries) p.0 in
    let r = both (eqb (length L.boundaries % 9) 0) (leb (length L.boundaries / 9) 256) q.1 in
    let few = rounds_257 (start_map (map_in L)) (omega (arith, leb-true (length L.boundaries / 9) 256 r.1, boundary_count_lem L, start-boundaries (map_in L))) in
    omega (arith, few, ap (λ a. a.rounds) (accepted-answer L h))

module _ {L : Lent} {a : RestAnswer} {l m q t p : List ℕ} {s : List Region} {o : List ℕ} (ran : RestRan L a l m q t p s o) (success : a.number ≡ 0) where
  accepts : (rest_verdict L).number ≡ 0
  accepts = ap (λ b. b.number) (sym ran.answer) ∙ success

  -- the output holds the printed rows, as many as the answer counts
  pub rest_rows-held : rows_in_lem a.value o ≡ rest_rows (map_in L)
  unfolding rest_exit stage_of
  rest_rows-held =
      let rows = rest_rows (map_in L) in
      let count : a.value ≡ length rows = ap (λ b. b.value) (ran.answer ∙ accepted-answer L accepts) in
      let front : o ≡ flat_rows rows ++ drop (length (flat_rows rows)) L.output = ran.output ∙ ap (λ n. (rest_exit L n).output) success in
      rw (count, front) (rows_of-flat rows (drop (length (flat_rows rows)) L.output))

  -- the rounds that the answer counts: the last removes none, each of the others at least one, and they are at most 257
  pub rest-rounds : Rests (start_map (map_in L)) (run 0 (length (start_map (map_in L)).boundaries)) a.rounds (rested (start_map (map_in L))).places
  unfolding rounds_of
  rest-rounds =
      let S = start_map (map_in L) in
      subst (λ k. Rests S (run 0 (length S.boundaries)) k (rested S).places) (sym (ap (λ b. b.rounds) (ran.answer ∙ accepted-answer L accepts))) (rested-rests S)

  pub rest-rounds_257 : a.rounds ≤ 257
  rest-rounds_257 = omega (arith, accepted-rounds L accepts, ap (λ b. b.rounds) ran.answer)

  -- which are the final rows of the starting map in row order, with the numbers of the list as lent
  pub rest_rows-numbered : rows_in_lem a.value o ≡ map (numbered (map_in L)) (final_rows (start_map (map_in L)))
  rest_rows-numbered = rest_rows-held ∙ printed (map_in L)

-- Two calls. What demand 3 says of the rows that they printed, in two forms: with the premises and ranks in row order, which is the request's, and with those
-- of the maps as lent.

pub record SameAtRest (M M' : Map) (isl : ℕ → Bool) (rows rows' : List Row) : Type 0 where
  -- the rows of the island are "alike, as 01 has it for demand 3, and in the same order"
  pub alike : printed_island M isl rows ≡ printed_island M' isl rows'
  -- the boundary at place k of the one starting list has a row exactly when its counterpart at place k' of the other has
  pub kept : (k k' : ℕ) → cuts_island (start_map M) isl k ≡ true → cuts_island (start_map M') isl k' ≡ true
      → rank_of (start_map M) isl k ≡ rank_of (start_map M') isl k' → has_row (number_at M k) rows ≡ has_row (number_at M' k') rows'

pub record SameAsLent (M M' : Map) (isl : ℕ → Bool) (rows rows' : List Row) : Type 0 where
  pub alike : island_only M isl rows ≡ island_only M' isl rows'
  pub kept : (i j : ℕ) → cuts_island M isl i ≡ true → cuts_island M' isl j ≡ true → rank_of M isl i ≡ rank_of M' isl j → has_row i rows ≡ has_row j rows'
