-- What a call that runs a pass left can always be stored. What is assumed, whole: the call met its contract (`Ran`, which every call meets for every input) and answered 0.
-- Then what it left, over the cells, the spans, the pairs found and the rows kept, is the run's result, so that it keeps the rules; and a call of the writer that
-- is lent it whole answers with its bytes, or 10 where they do not fit, and nothing else.
use Rattle.std.specs.Prelude.{ℕ, ◌*◌, ◌≤◌, ◌≡◌, refl, true, List, [], ◌∷◌, leb, length, None}
use Rattle.std.proofs.Common.{arith, ◌∙◌, le-leb}
use Rattle.std.proofs.Math.Path.{sym, ap}
use Rattle.std.proofs.Math.ListN.{take}
use Rattle.definitions.specs.Limits.{tallies_per_span, numbers_per_row}
use Rattle.definitions.specs.Lists.{overwrite}
use Rattle.definitions.specs.Grid.{cell_count, span_count}
use Rattle.definitions.specs.Partition.{labels, region_count}
use Rattle.definitions.specs.RegionRecord.{Region}
use Rattle.definitions.specs.Context.{context_of}
use Rattle.definitions.specs.Rows.{rows_of, flat_rows}
use Rattle.definitions.specs.Refusals.{unless}
use Rattle.definitions.specs.Verdict.{Lent, Answer, map_in, refusal, first_refusal, pair_rows_of}
use Rattle.definitions.specs.AtExit.{tallies_of, call_exit, exit_with, stage_of}
use Rattle.laws.specs.ListLaws.Lists.{All}
use Rattle.laws.specs.ListLaws.FlatRows.{flat-length}
use Rattle.laws.specs.TableLaws.AcceptedCalls.{accepted-count}
use Rattle.laws.specs.RegionLaws.Regions.{labels_length}
use Rattle.laws.specs.RegionLaws.Tallies.{tallies-length}
use Rattle.call_partition.specs.Contract.{Ran}
use Rattle.results.specs.Result.{rules_fault}
use Rattle.results.specs.ResultAnswers.{well_formed, read_result, result_bytes, placed, is_finished, written_at_exit, Writes}
use Rattle.results.proofs.Calls.{InMemory, written-call}
use Rattle.run_results.specs.Held.{pairs_held, regions-greatest, pairs_held_lem}
use Rattle.run_results.specs.RunResult.{run_result, run-keeps_rules, run-finished}
use Rattle.run_results.specs.Calls.{rows_left_lem, result_left, result_held, front, room-alone}

module _
    {L : Lent} {a : Answer} {l m q t p : List ℕ} {s : List Region} {o : List ℕ} (ran : Ran L a l m q t p s o) (success : a.number ≡ 0) where
  kept : a.value ≡ length (rows_of L.pass (map_in L))
  kept = ap (λ b. b.value) ran.answer ∙ accepted-count L (ap (λ b. b.number) (sym ran.answer) ∙ success)

  pub left_is : result_left L a l t p o ≡ run_result L.pass (map_in L)
  unfolding call_exit exit_with stage_of context_of
  left_is = λ i. record { regions = region_count (map_in L); labels = same_labels i; tallies = same_tallies i; pairs = same_pairs i; rows = same_rows i }
    where
      same_labels : take (cell_count (map_in L)) l ≡ labels (map_in L)
      same_labels = front (cell_count (map_in L)) (labels (map_in L)) L.labels l (labels_length (map_in L)) (ran.labels ∙ ap (λ n. (call_exit L n).labels) success)

      same_tallies : take (tallies_per_span * span_count (map_in L)) t ≡ tallies_of (context_of (map_in L))
      same_tallies =
          front (tallies_per_span * span_count (map_in L)) (tallies_of (context_of (map_in L))) L.tallies t (tallies-length (context_of (map_in L)))
          (ran.tallies ∙ ap (λ n. (call_exit L n).tallies) success)

      same_pairs : take (length (pair_rows_of (context_of (map_in L)))) p ≡ pair_rows_of (context_of (map_in L))
      same_pairs =
          front (length (pair_rows_of (context_of (map_in L)))) (pair_rows_of (context_of (map_in L))) L.pairs p refl (ran.pairs ∙ ap (λ n. (call_exit L n).pairs) success)

      same_rows : rows_left_lem a o ≡ flat_rows (rows_of L.pass (map_in L))
      same_rows =
          front (numbers_per_row * a.value) (flat_rows (rows_of L.pass (map_in L))) L.output o (omega (arith, flat-length (rows_of L.pass (map_in L)), kept))
          (ran.output ∙ ap (λ n. (call_exit L n).output) success)

  pub call-keeps_rules : rules_fault (placed (result_left L a l t p o)) ≡ None
  call-keeps_rules = ap (λ r. rules_fault (placed r)) left_is ∙ run-keeps_rules L.pass (map_in L)

  call-finished : is_finished (result_left L a l t p o) ≡ true
  call-finished = ap is_finished left_is ∙ run-finished L.pass (map_in L)

  -- what a caller finds who lent zeros for the pairs
  pub held_is : All (λ n. n ≡ 0) L.pairs → result_held L a l t p o ≡ result_left L a l t p o
  unfolding call_exit exit_with stage_of context_of
  held_is zeros = λ i.
      record {
        regions = sym (regions-greatest (result_left L a l t p o) call-keeps_rules) i;
        labels = take (cell_count (map_in L)) l;
        tallies = take (tallies_per_span * span_count (map_in L)) t;
        pairs = same_pairs i;
        rows = rows_left_lem a o;
      }
    where
      filled : p ≡ overwrite (pair_rows_of (context_of (map_in L))) L.pairs
      filled = ran.pairs ∙ ap (λ n. (call_exit L n).pairs) success

      same_pairs : pairs_held p ≡ take (length (pair_rows_of (context_of (map_in L)))) p
      same_pairs =
          ap pairs_held filled ∙ pairs_held_lem (map_in L) L.pairs zeros ∙ sym (front (length (pair_rows_of (context_of (map_in L)))) (pair_rows_of (context_of (map_in L))) L.pairs p refl filled)

  -- the writer, lent what the call left
  module _ {lent lent' : List ℕ} {answer : Answer} (wrote : Writes (result_left L a l t p o) lent answer lent') where
    abbrev size : ℕ
    size = length (result_bytes (result_left L a l t p o))

    -- never 15, never 3
    pub stored_or_short : answer ≡ first_refusal (refusal 10 (unless (leb size (length lent))) ∷ []) size
    stored_or_short = wrote.said ∙ room-alone (result_left L a l t p o) (length lent) call-keeps_rules call-finished

    module _ (room : size ≤ length lent) where
      pub stored_answer : answer ≡ record { number = 0; value = size }
      stored_answer = stored_or_short ∙ ap (λ b. first_refusal (refusal 10 (unless b) ∷ []) size) (le-leb size (length lent) room)

      pub stored_bytes : lent' ≡ overwrite (result_bytes (result_left L a l t p o)) lent
      stored_bytes = wrote.left ∙ ap (λ b. written_at_exit b.number (result_left L a l t p o) lent) stored_answer

      -- and it reads as itself
      pub stored-reads : InMemory (result_left L a l t p o) → read_result (take answer.value lent') ≡ well_formed (result_left L a l t p o)
      stored-reads inside = written-call inside wrote (ap (λ b. b.number) stored_answer)
