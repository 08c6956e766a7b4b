-- The end of a run: from what stands once the passes have come to rest, with masks and queue cleared and the rows written, its contract (`rest-ran`). Assumes
-- nothing.
use Prim.Native.Nat.{ℕ, ◌*◌, ◌/◌, ◌≤◌}
use native.Mathlib.Omega.{arith}
use mathlib.Core.Path.{◌≡◌, refl, sym, ap, ap₂, ◌∙◌}
use mathlib.Core.List.{List, [], ◌∷◌, ◌++◌}
use lib.ListN.{length, get_or, replicate, length-map}
use borrow.Author.Tests.{leb-true}
use Rattle.definitions.specs.Limits.{numbers_per_boundary}
use Rattle.definitions.specs.Grid.{Map, cell_count, map_of}
use Rattle.definitions.specs.Partition.{labels}
use Rattle.definitions.specs.RegionRecord.{Region, empty_region}
use Rattle.definitions.specs.Context.{context_of}
use Rattle.definitions.specs.Refusals.{output_room}
use Rattle.definitions.specs.Rows.{flat_rows}
use Rattle.definitions.specs.AtExit.{stage_of, tallies_of, records_of}
use Rattle.definitions.specs.Lists.{overwrite, zeroed}
use Rattle.definitions.specs.Verdict.{Lent, map_in, refusal, first_refusal, pair_rows_of, partition_has_room}
use Rattle.laws.specs.ListLaws.Lists.{all_map}
use Rattle.laws.specs.ListLaws.Tests.{both}
use Rattle.areas.specs.Fit.{Fit}
use Rattle.call_partition.proofs.EarlyFits.{early-fits}
use Rattle.rest_definitions.specs.RowOrder.{start_rows, no_row, start_map}
use Rattle.rest_definitions.specs.Rest.{rested, rest_rows, rounds_of, last_map}
use Rattle.rest_definitions.specs.RestVerdict.{with_rounds, rest_verdict}
use Rattle.rest_definitions.specs.RestExit.{rest_exit}
use Rattle.rest.specs.FlatLists.{flat_spans, flat_boundaries}
use Rattle.rest.specs.KeptMaps.{kept-count}
use Rattle.rest.specs.StartMaps.{start-boundaries, start-count}
use Rattle.rest.specs.Runs.{reached-ascends, run-fewer}
use Rattle.rest.specs.InnerCalls.{RestAccepted, checked-answer, lent-count}
use Rattle.rest.specs.RestCalls.{RestRan}
use Rattle.rest_lists.specs.declared.kept.Standing.{Standing}
use Rattle.boundary_blocks.specs.Start.{rows_at}
use Rattle.rest_lists.specs.Kept.{number_block, ends_block, Origin, lent_to, map_lent, kept_of, rows_long_lem, KeptLists}
use Rattle.rest_lists.proofs.Holding.{begins-long, rows-kept}
use Rattle.rest_lists.proofs.Between.{flat-kept}

-- an accepted run answers with its rows and rounds
accepted_is : (L : Lent) → RestAccepted L → rest_verdict L ≡ record { number = 0; value = length (rest_rows (map_in L)); rounds = rounds_of (map_in L) }
accepted_is L A =
    checked-answer L A.checked
    ∙ (λ i. with_rounds (first_refusal (refusal 11 (A.records i) ∷ refusal 12 (A.pairs i) ∷ []) (length (rest_rows (map_in L)))) (rounds_of (map_in L)))

module _ {w h : ℕ} {cells anchors : List ℕ} {O : Origin} {s : List Region} {first standing : Standing} {l m q t p n b d : List ℕ}
    (K : KeptLists w h cells anchors O s (rested (start_map (map_lent w h cells anchors O))).places first standing l m q t p n b d) where
  abbrev M : Map
  M = map_lent w h cells anchors O

  abbrev final : List ℕ
  final = (rested (start_map M)).places

  abbrev L : Lent
  L = lent_to w h cells anchors O s

  kept-few : standing.kept ≤ length O.boundaries / 9
  unfolding map_in
  kept-few =
      let lent : length M.boundaries ≡ length O.boundaries / 9 = lent-count L K.accepted.checked in
      omega (arith, K.count, kept-count (start_map M) final, (run-fewer M K.reached).spans, start-count M, lent)

  -- what the end asks
  pub numbers_fit : standing.kept ≤ length n
  numbers_fit = omega (arith, begins-long (number_block M) 1 (λ x. refl) K.held.numbered, K.count)

  pub ends-fit : 4 * standing.kept ≤ length b
  ends-fit = omega (arith, begins-long (ends_block M) 4 (λ x. refl) K.held.ended, K.count)

  pub output-fits : 5 * standing.kept ≤ length O.output
  unfolding map_in
  output-fits =
      let r = both (partition_has_room L) (output_room (length O.boundaries / numbers_per_boundary) (length O.output)) K.accepted.checked.room in
      omega (arith, leb-true (5 * (length O.boundaries / 9)) (length O.output) r.1, kept-few)

  fit : Fit w h cells (flat_spans (kept_of M final).spans) (length O.labels) (length O.masks) (length O.queue) (length (zeroed (2 * first.kept) O.tallies))
  fit =
      early-fits 1 w h cells (flat_spans (kept_of M final).spans) (flat_boundaries (kept_of M final).boundaries) anchors (length O.labels) (length O.masks) (length O.queue)
      (length (zeroed (2 * first.kept) O.tallies)) rows_long_lem (sym K.ready.accepted)

  pub masks-fit : h * w ≤ length m
  masks-fit = omega (arith, fit.masks_long, K.masks.long)

  pub queue-fit : h * w ≤ length q
  queue-fit = omega (arith, fit.queue_long_lem, K.queue.long)

  rows_are : rows_at n b standing.kept ≡ rest_rows M
  unfolding rest_rows
  rows_are = rows-kept M final (all_map (λ k h. omega (arith, start-boundaries M)) (reached-ascends M K.reached).within) K.held K.count

  pub rest-ran : {rounds : ℕ} {m' q' o' : List ℕ} {s' : List Region} → rounds ≡ (rested (start_map M)).rounds
      → m' ≡ zeroed (h * w) m → q' ≡ zeroed (h * w) q → o' ≡ overwrite (flat_rows (rows_at n b standing.kept)) O.output
      → s' ≡ overwrite (records_of (context_of (kept_of M final))) (overwrite (replicate first.regions empty_region) s)
      → RestRan L (record { number = 0; value = standing.kept; rounds = rounds }) l m' q' t p s' o'
  unfolding rest_exit stage_of last_map map_in rounds_of cell_count map_of rest_rows
  rest-ran r em eq eo es =
      let same = flat-kept w h cells anchors O final in
      record {
        answer =
            ap₂ (λ v k. record { number = 0; value = v; rounds = k }) (K.count ∙ sym (length-map final (λ k. get_or (start_rows M) k no_row))) r
            ∙ sym (accepted_is L K.accepted);
        labels = K.ready.filled ∙ ap (λ N. overwrite (labels N) O.labels) same;
        masks = em ∙ ap (λ r. replicate (h * w) 0 ++ r) K.masks.rest;
        queue = eq ∙ ap (λ r. replicate (h * w) 0 ++ r) K.queue.rest;
        tallies = K.ready.tallied ∙ ap₂ (λ N k. overwrite (tallies_of (context_of N)) (zeroed (2 * k) O.tallies)) same K.firsts.kept;
        pairs = K.ready.paired ∙ ap₂ (λ N k. overwrite (pair_rows_of (context_of N)) (zeroed k O.pairs)) same K.firsts.rows;
        records = es ∙ ap (λ k. overwrite (records_of (context_of (kept_of M final))) (overwrite (replicate k empty_region) s)) K.firsts.regions;
        output = eo ∙ ap (λ r. overwrite (flat_rows r) O.output) rows_are;
      }
