-- What accepted calls on a map left: their records, desks, ranked lists, runs to rest and verdicts of the game, in the order of the requests. Assumes nothing.
use Prim.Native.Nat.{ℕ, ◌≤◌}
use mathlib.Core.Path.{◌≡◌}
use mathlib.Core.Bool.{Bool, true}
use Rattle.std.specs.Prelude.{None, Some}
use mathlib.Core.List.{List, map}
use lib.ListN.{length, take}
use lib.Dec.{eqb}
use Rattle.definitions.specs.Lists.{overwrite}
use Rattle.definitions.specs.Scan.{run}
use Rattle.definitions.specs.Grid.{span_count}
use Rattle.definitions.specs.Partition.{region_count}
use Rattle.definitions.specs.Context.{context_of}
use Rattle.definitions.specs.Junctions.{conflict}
use Rattle.definitions.specs.Rows.{removed_of}
use Rattle.definitions.specs.Refusals.{Refusal}
use Rattle.definitions.specs.Verdict.{Answer, map_in}
use Rattle.definitions.specs.SheetNumber.{number}
use Rattle.laws.specs.ListLaws.FlatRows.{rows_in_lem}
use Rattle.context.specs.Records.{record_of}
use Rattle.refusals.specs.Answers.{answer_in}
use Rattle.call_partition.specs.Contract.{Ran}
use Rattle.island.specs.Premises.{Alike}
use Rattle.record_sums.specs.Totals.{AddUp}
use Rattle.record_sums.proofs.Theorem as sums
use Rattle.ranked_list.specs.RankedList.{ranked_of}
use Rattle.ranked_list.specs.RankedAnswers.{RankedAnswer}
use Rattle.ranked_list.proofs.RankedLaws.{chosen}
use Rattle.ranked_list.proofs.RankedCalls.{ranked_in, Greedy}
use Rattle.ranked_list.proofs.RankedCalls as ranks
use Rattle.topology.specs.Lent.{LentLists, LeftLists, lent_map, lent_call}
use Rattle.topology.specs.Contract.{RanOver}
use Rattle.topology.specs.Desks.{LentBoth, LeftBoth, shared_lent, RanBothOver}
use Rattle.call_answers.specs.declared.desk_answers.DesksAnswer.{DesksAnswer}
use Rattle.topology.specs.Rest.{RestRanOver}
use Rattle.topology.specs.Games.{PlayedOver}
use Rattle.rest_definitions.specs.RowOrder.{start_map}
use Rattle.rest_definitions.specs.Rest.{rested}
use Rattle.rest_definitions.specs.RestVerdict.{RestAnswer}
use Rattle.rest.specs.Rounds.{Rests}
use Rattle.rest.specs.RestCalls.{SameAtRest, SameAsLent}
use Rattle.rest.specs.RestCalls as rest
use Rattle.rest.proofs.RestCalls as rest-calls
use Rattle.game.specs.Game.{Place, Inside}
use Rattle.game.specs.Play as play
use Rattle.game.specs.EntryLaws.{Entry}
use Rattle.game.specs.EntryLaws as entries
use Rattle.game_calls.specs.KeptGraph.{kept_game}
use Rattle.game_calls.specs.GameVerdict.{GameAnswer}
use Rattle.game_calls.proofs.GameCalls as games
use Rattle.topology.specs.Ranked.{RankedOver}
use Rattle.desks.specs.Desks.{Desk, shared_refusal, desk_refusal}
use Rattle.desks.specs.Desks as desk
use Rattle.desks.proofs.SameGround.{SameGround}
use Rattle.desks.proofs.DeskLaws.{RefusedWith, LeftAsOnSuccess}
use Rattle.desks.proofs.DeskLaws as desks
use Rattle.desk_checks.specs.AloneCalls as desk-calls
use Rattle.results.specs.Result.{Result, rules_fault}
use Rattle.results.specs.ResultAnswers.{result_bytes, Writes}
use Rattle.results.specs.ResultAnswers as answers
use Rattle.run_results.specs.Calls.{result_left}
use Rattle.run_results.proofs.Calls as runs

-- ---- request 1: what a run found can always be stored

module _ {pass : ℕ} {L : LentLists} {a : Answer} {E : LeftLists} (call : RanOver pass L a E) (success : a.number ≡ 0) where
  abbrev pub run_left : Result
  run_left = result_left (lent_call pass L) a E.labels E.tallies E.pairs E.output

  pub run-keeps_rules : rules_fault (answers.placed run_left) ≡ None
  run-keeps_rules = runs.call-keeps_rules call.ran success

  -- the writer, lent it whole, answers with its bytes where there is room for them
  pub run-stored : {lent lent' : List ℕ} {answer : Answer} → Writes run_left lent answer lent' → length (result_bytes run_left) ≤ length lent
      → (answer ≡ record { number = 0; value = length (result_bytes run_left) }) × (lent' ≡ overwrite (result_bytes run_left) lent)
  run-stored wrote room = (runs.stored_answer call.ran success wrote room, runs.stored_bytes call.ran success wrote room)

-- ---- request 4: what calls that ran to rest and were accepted left

module _ {L : LentLists} {a : RestAnswer} {E : LeftLists} (call : RestRanOver L a E) (success : a.number ≡ 0) where
  -- each round but the last removes at least one, the last none, and they are at most 257
  pub rest-rounds : Rests (start_map (lent_map L)) (run 0 (length (start_map (lent_map L)).boundaries)) a.rounds (rested (start_map (lent_map L))).places
  unfolding map_in
  rest-rounds = rest.rest-rounds call.ran success

  pub rest-rounds_257 : a.rounds ≤ 257
  rest-rounds_257 = rest.rest-rounds_257 call.ran success

  -- of any two: the island's rows are alike and in the same order, and a boundary is kept exactly when its counterpart is
  module _ {L' : LentLists} {a' : RestAnswer} {E' : LeftLists} (call' : RestRanOver L' a' E') (success' : a'.number ≡ 0) (isl : ℕ → Bool) where
    -- with the premises of the starting maps in row order
    pub rest-island_calls : Alike (start_map (lent_map L)) (start_map (lent_map L')) isl
        → SameAtRest (lent_map L) (lent_map L') isl (rows_in_lem a.value E.output) (rows_in_lem a'.value E'.output)
    unfolding map_in
    rest-island_calls alike = rest-calls.rest-island_calls call.ran call'.ran success success' isl alike

    -- with those of the maps as lent
    pub rest-island-lent_calls : Alike (lent_map L) (lent_map L') isl
        → SameAsLent (lent_map L) (lent_map L') isl (rows_in_lem a.value E.output) (rows_in_lem a'.value E'.output)
    unfolding map_in
    rest-island-lent_calls alike = rest-calls.rest-island-lent_calls call.ran call'.ran success success' isl alike

-- ---- request 6: over a call that ran a pass and returned 0, the records at exit of the R regions add up to the grid: ramp cells to its walkable ramp cells, cells to its
-- walkable cells

pub records-add-up : {pass : ℕ} {L : LentLists} {a : Answer} {E : LeftLists} → RanOver pass L a E → a.number ≡ 0
    → AddUp (lent_map L) (take (region_count (lent_map L)) (map record_of E.records))
unfolding map_in
records-add-up call success = sums.call-adds-up call.ran success

-- ---- request 9: two desks over one partition

-- two calls with one desk, beside whatever other desk, in either order, whatever the shared lists held at entry, as long as they are as long
module _ {x x' : ℕ} {L L' : LentBoth} {A B C : Desk} {r r' : DesksAnswer} {E E' : LeftBoth} (same : SameGround (shared_lent L) (shared_lent L')) where
  pub route-desk-free : RanBothOver x L A B r E → RanBothOver x' L' A C r' E' → (answer_in r.route ≡ answer_in r'.route) × (E.route_output_lem ≡ E'.route_output_lem)
  route-desk-free call call' = desks.route-free same call.ran call'.ran

  pub coaching-desk-free : RanBothOver x L A B r E → RanBothOver x' L' C B r' E'
      → (answer_in r.coaching ≡ answer_in r'.coaching) × (E.coaching_output_lem ≡ E'.coaching_output_lem)
  coaching-desk-free call call' = desks.coaching-free same call.ran call'.ran

-- the shared lists are the same, whatever the desks and their order
pub desk-lists-free : {x x' : ℕ} {L : LentBoth} {A B C D : Desk} {r r' : DesksAnswer} {E E' : LeftBoth} → RanBothOver x L A B r E → RanBothOver x' L C D r' E'
    → (E.labels ≡ E'.labels) × (E.masks ≡ E'.masks) × (E.queue ≡ E'.queue) × (E.tallies ≡ E'.tallies) × (E.pairs ≡ E'.pairs)
    × (map record_of E.records ≡ map record_of E'.records)
desk-lists-free call call' = desks.lists-free call.ran call'.ran

module _ {x : ℕ} {L : LentBoth} {A B : Desk} {r : DesksAnswer} {E : LeftBoth} (call : RanBothOver x L A B r E) where
  -- a desk that is accepted has what the call of its pass with its lists alone has, and so do the shared lists
  pub route-desk-alone : r.route.number ≡ 0
      → Ran (desk.alone (shared_lent L) A) (answer_in r.route) E.labels E.masks E.queue E.tallies E.pairs (map record_of E.records) E.route_output_lem
  route-desk-alone = desk-calls.route-alone call.ran

  pub coaching-desk-alone : r.coaching.number ≡ 0
      → Ran (desk.alone (shared_lent L) B) (answer_in r.coaching) E.labels E.masks E.queue E.tallies E.pairs (map record_of E.records) E.coaching_output_lem
  coaching-desk-alone = desk-calls.coaching-alone call.ran

  -- a refusal over the shared lists goes to both
  pub desks_refused-both : {f : Refusal} → shared_refusal (shared_lent L) ≡ Some f
      → RefusedWith A f (answer_in r.route) E.route_output_lem × RefusedWith B f (answer_in r.coaching) E.coaching_output_lem
  desks_refused-both = desks.goes_to_both call.ran

  -- a desk's own leaves its output as it was, and the shared lists as on success
  pub route-desk-refused : {f : Refusal} → shared_refusal (shared_lent L) ≡ None → desk_refusal (shared_lent L) A ≡ Some f
      → RefusedWith A f (answer_in r.route) E.route_output_lem
      × LeftAsOnSuccess (shared_lent L) E.labels E.masks E.queue E.tallies E.pairs (map record_of E.records)
  route-desk-refused = desks.route-refused call.ran

  pub coaching-desk-refused : {f : Refusal} → shared_refusal (shared_lent L) ≡ None → desk_refusal (shared_lent L) B ≡ Some f
      → RefusedWith B f (answer_in r.coaching) E.coaching_output_lem
      × LeftAsOnSuccess (shared_lent L) E.labels E.masks E.queue E.tallies E.pairs (map record_of E.records)
  coaching-desk-refused = desks.coaching-refused call.ran

-- ---- request 11: what a call that gave the ranked junction list left in it, where it returned 0

module _ {L : LentLists} {was : List ℕ} {a : RankedAnswer} {E : LeftLists} {list : List ℕ} (call : RankedOver L was a E list) (success : a.number ≡ 0) where
  -- "every junction proposal that reaches the ranking, in rank order"
  pub call-lists : ranked_in a.proposals list ≡ ranked_of (lent_map L)
  unfolding map_in
  call-lists = ranks.call-lists call.ran success

  -- exactly the proposals that are ranked; taken ones keep apart; a refused one names the earliest taken one that conflicts with it
  pub call_greedy : eqb (length (lent_map L).boundaries) (span_count (lent_map L)) ≡ true → Greedy (context_of (lent_map L)) (ranked_in a.proposals list)
  unfolding map_in
  call_greedy = ranks.call_greedy call.ran success

  -- "pass 3 removes just theirs"
  pub call-removes : map (λ p. p.index) (chosen (conflict (context_of (lent_map L))) (ranked_in a.proposals list)) ≡ removed_of 3 (lent_map L)
  unfolding map_in
  call-removes = ranks.call-removes call.ran success

-- ---- request 14: what each entry of the lent verdicts says once a call is accepted, over all ways of play

module _ {pass : ℕ} {L : LentLists} {goal : ℕ} {were : List ℕ} {a : GameAnswer} {E : LeftLists} {verdicts : List ℕ}
    (call : PlayedOver pass L goal were a E verdicts) (success : a.number ≡ 0) where
  pub game_entries : (x : Place) → Inside (kept_game pass (lent_map L) goal) x
      → (w : play.Verdict) × play.Judged (kept_game pass (lent_map L) goal) x w × Entry verdicts (entries.number_of (kept_game pass (lent_map L) goal) x) w
  unfolding map_in
  game_entries = games.played-entries call.played success
