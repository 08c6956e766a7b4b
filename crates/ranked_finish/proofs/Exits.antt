-- The contract of the call that gives the ranked junction list, from what a call of pass 3 leaves: with the list written, at 21, and where a check before it refuses. That a
-- refusal's number is below 21 is in the table. Of a call that was refused with number 0 nothing is known but its contract, for whatever was lent: then there is no region, since
-- its record would have to be whatever stood there, and so no proposal. Assumes nothing.
use Prim.Native.Nat.{ℕ, zero, suc, ◌/◌, ◌≤◌, ◌<◌}
use native.Mathlib.Omega.{arith}
use mathlib.Core.Path.{◌≡◌, refl, sym, ap, ap₂, ◌∙◌, subst}
use mathlib.Core.Bool.{Bool, true, false, cond}
use mathlib.Core.List.{List, [], ◌∷◌}
use lib.ListN.{length, get_or, replicate, length-replicate, length-map}
use lib.Dec.{leb}
use borrow.Author.Tests.{le-leb, lt-leb, ne_eqb}
use Rattle.definitions.specs.Scan.{run}
use Rattle.definitions.specs.Grid.{Map, map_of}
use Rattle.definitions.specs.RegionRecord.{Region, empty_region}
use Rattle.definitions.specs.Context.{context_of}
use Rattle.definitions.specs.Refusals.{unless}
use Rattle.definitions.specs.Lists.{overwrite, zeroed}
use Rattle.definitions.specs.Verdict.{Lent, map_in, refusal}
use Rattle.definitions.specs.AtExit.{complete, stage_of, records_of, labels_at_exit, scratch_at_exit, tallies_at_exit, pairs_at_exit, records_at_exit, exit_with, call_exit}
use Rattle.laws.specs.ListLaws.Lists.{length_run}
use Rattle.call_partition.specs.Contract.{given, Ran}
use Rattle.ranked_list.specs.RankedList.{ranked_of, numbers_per_ranked, flat_ranked}
use Rattle.ranked_list.specs.RankedAnswers.{ranked_fault, ranked_after, ranked_verdict, ranked_stage, ranked_exit, ranked_list_exit, RankedRan}
use Rattle.ranked_finish.proofs.Numbers.{verdict-before}
use Rattle.ranked_finish.proofs.Proposing.{none_ranked}

-- ---- from a call of pass 3 that was accepted

module _ {L : Lent} (was : List ℕ) {kept : ℕ} {l m q t p : List ℕ} {s : List Region} {o : List ℕ} (ran : Ran L (record { number = 0; value = kept }) l m q t p s o) where
  abbrev many : ℕ
  many = length (ranked_of (map_in L))

  -- the answer, by whether the list has room
  judged : (b : Bool) → leb many (length was / numbers_per_ranked) ≡ b → ranked_after 0 kept (refusal 21 (unless b)) many ≡ ranked_verdict L was
  unfolding ranked_verdict ranked_fault
  judged b e =
      ap (λ b. ranked_after 0 kept (refusal 21 (unless b)) many) (sym e)
      ∙ ap (λ a. ranked_after a.number a.value (refusal 21 (ranked_fault (map_in L) was)) many) ran.answer

  pub ranked-done : {n : ℕ} {k : List ℕ} → n ≡ many → n ≤ length was / numbers_per_ranked → k ≡ overwrite (flat_ranked (ranked_of (map_in L))) was
      → RankedRan L was (record { number = 0; value = kept; proposals = n }) l m q t p s o k
  unfolding call_exit ranked_exit ranked_stage stage_of ranked_list_exit
  ranked-done e room list =
      record {
        answer = ap (λ n. record { number = 0; value = kept; proposals = n }) e ∙ judged true (le-leb many (length was / numbers_per_ranked) (omega (arith, e, room)));
        labels = ran.labels;
        masks = ran.masks;
        queue = ran.queue;
        tallies = ran.tallies;
        pairs = ran.pairs;
        records = ran.records;
        output = ran.output;
        list = list;
      }

  -- the output is not written
  pub ranked-short : {k : List ℕ} → length was / numbers_per_ranked < many → k ≡ zeroed (length was) was
      → RankedRan L was (record { number = 21; value = 0; proposals = 0 }) l m q t p s L.output k
  unfolding call_exit ranked_exit ranked_stage stage_of ranked_list_exit
  ranked-short short list =
      record {
        answer = judged false (lt-leb many (length was / numbers_per_ranked) short);
        labels = ran.labels;
        masks = ran.masks;
        queue = ran.queue;
        tallies = ran.tallies;
        pairs = ran.pairs;
        records = ran.records;
        output = refl;
        list = list;
      }

-- ---- from one that was refused

module _ {L : Lent} (was : List ℕ) {n place : ℕ} {l m q t p : List ℕ} {s : List Region} {o : List ℕ} (ran : Ran L (record { number = suc n; value = place }) l m q t p s o) where
  other : suc n ≡ 21 → ⊥
  other e = omega (arith, e, ap (λ a. a.number) ran.answer, verdict-before L)

  same_stage : stage_of (suc n) ≡ ranked_stage (suc n)
  unfolding ranked_stage
  same_stage = ap (λ b. cond b complete (stage_of (suc n))) (sym (ne_eqb (suc n) 21 other))

  pub ranked-refused : RankedRan L was (record { number = suc n; value = place; proposals = 0 }) l m q t p s o was
  unfolding call_exit exit_with ranked_exit ranked_list_exit ranked_verdict
  ranked-refused =
      record {
        answer = ap (λ a. ranked_after a.number a.value (refusal 21 (ranked_fault (map_in L) was)) (length (ranked_of (map_in L)))) ran.answer;
        labels = ran.labels ∙ ap (λ g. labels_at_exit g (map_in L) L.labels) same_stage;
        masks = ran.masks ∙ ap (λ g. scratch_at_exit g (map_in L) L.masks) same_stage;
        queue = ran.queue ∙ ap (λ g. scratch_at_exit g (map_in L) L.queue) same_stage;
        tallies = ran.tallies ∙ ap (λ g. tallies_at_exit g (map_in L) L.tallies) same_stage;
        pairs = ran.pairs ∙ ap (λ g. pairs_at_exit g (map_in L) L.pairs) same_stage;
        records = ran.records ∙ ap (λ g. records_at_exit g (map_in L) L.records) same_stage;
        output = ran.output;
        list =
            ap₂ (λ b c. cond b (overwrite (flat_ranked (ranked_of (map_in L))) was) (cond c (zeroed (length was) was) was))
            (sym (ne_eqb (suc n) 0 (λ e. omega (arith, e)))) (sym (ne_eqb (suc n) 21 other));
      }

-- ---- from one that was refused with whatever number, for whatever records and output of these lengths

module _ (w h : ℕ) (cells spans boundaries anchors : List ℕ) (room output : ℕ) (l m q t p : List ℕ) {number place : ℕ} {l' m' q' t' p' : List ℕ}
    (refused : (s : List Region) (o : List ℕ) → length s ≡ room → length o ≡ output
    → Ran (given 3 w h cells spans boundaries anchors l m q t p s o) (record { number = number; value = place }) l' m' q' t' p' s o) where
  abbrev M : Map
  M = map_of w h cells spans boundaries anchors

  -- all records alike
  abbrev all_of : Region → List Region
  all_of r = replicate room r

  first_of : (n : ℕ) (r : Region) → get_or (replicate n r) 0 r ≡ r
  first_of zero r = refl
  first_of (suc n) r = refl

  -- a record with another count
  abbrev other_region_lem : Region
  other_region_lem =
      record {
        cells = suc empty_region.cells;
        min_x_lem = empty_region.min_x_lem;
        min_y_lem = empty_region.min_y_lem;
        max_x_lem = empty_region.max_x_lem;
        max_y_lem = empty_region.max_y_lem;
        ramp_cells_lem = empty_region.ramp_cells_lem;
        elevations = empty_region.elevations;
        elevation_counts_lem = empty_region.elevation_counts_lem;
      }

  no_records : number ≡ 0 → (rs : List Region) → records_of (context_of M) ≡ rs → rs ≡ []
  unfolding call_exit stage_of map_in
  no_records e [] f = refl
  no_records e (x ∷ rs) f = absurd (omega (arith, ap (λ r. r.cells) (is empty_region ∙ sym (is other_region_lem))))
    where
      written : (r : Region) → all_of r ≡ overwrite (records_of (context_of M)) (all_of r)
      written r =
          (refused (all_of r) (replicate output 0) (length-replicate room r) (length-replicate output 0)).records
          ∙ ap (λ n. records_at_exit (stage_of n) M (all_of r)) e

      is : (r : Region) → r ≡ x
      is r = sym (first_of room r) ∙ ap (λ rs. get_or rs 0 r) (written r) ∙ ap (λ rs. get_or (overwrite rs (all_of r)) 0 r) f

  no_regions : number ≡ 0 → (context_of M).regions ≡ 0
  unfolding records_of run
  no_regions e =
      sym (length-map (run 1 (context_of M).regions) (context_of M).region ∙ length_run 1 (context_of M).regions)
      ∙ ap length (no_records e (records_of (context_of M)) refl)

  abbrev lent : List Region → List ℕ → Lent
  lent s o = given 3 w h cells spans boundaries anchors l m q t p s o

  pub refused-ran : (was : List ℕ) (s : List Region) (o : List ℕ) → length s ≡ room → length o ≡ output
      → RankedRan (lent s o) was (record { number = number; value = place; proposals = 0 }) l' m' q' t' p' s o was
  unfolding map_in flat_ranked
  refused-ran was s o long wide = go number refl
    where
      ran : (n : ℕ) → number ≡ n → Ran (lent s o) (record { number = n; value = place }) l' m' q' t' p' s o
      ran n e = subst (λ n. Ran (lent s o) (record { number = n; value = place }) l' m' q' t' p' s o) e (refused s o long wide)

      back : (n : ℕ) → number ≡ n → RankedRan (lent s o) was (record { number = n; value = place; proposals = 0 }) l' m' q' t' p' s o was
          → RankedRan (lent s o) was (record { number = number; value = place; proposals = 0 }) l' m' q' t' p' s o was
      back n e r = subst (λ n. RankedRan (lent s o) was (record { number = n; value = place; proposals = 0 }) l' m' q' t' p' s o was) (sym e) r

      go : (n : ℕ) → number ≡ n → RankedRan (lent s o) was (record { number = number; value = place; proposals = 0 }) l' m' q' t' p' s o was
      go zero e =
          let empty = none_ranked M (no_regions e) in
          back zero e (ranked-done was (ran zero e) (ap length (sym empty)) (omega arith) (ap (λ r. overwrite (flat_ranked r) was) (sym empty)))
      go (suc n) e = back (suc n) e (ranked-refused was (ran (suc n) e))
