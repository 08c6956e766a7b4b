-- The contract of the call from what its parts leave: where a check before it refuses, where there are more regions than records or more pairs than rows, and
-- where all is filled. The answer follows the chain of checks, and each list at exit is what the table says for that number. Assumes nothing.
use Prim.Native.Nat.{ℕ, ◌*◌, ◌/◌, ◌≤◌, ◌<◌}
use mathlib.Core.Path.{◌≡◌, refl, sym, ap, ◌∙◌}
use mathlib.Core.Bool.{not, ◌&&◌}
use Rattle.std.specs.Prelude.{Option, None, Some}
use mathlib.Core.List.{List, [], ◌∷◌}
use lib.ListN.{length}
use borrow.Author.Tests.{le-leb, lt-leb}
use Rattle.definitions.specs.Limits.{numbers_per_span, numbers_per_boundary, numbers_per_anchor, numbers_per_pair, tallies_per_span}
use Rattle.definitions.specs.Scan.{only_if}
use Rattle.definitions.specs.Grid.{Map, map_of, cell_count, span_count}
use Rattle.definitions.specs.Lists.{overwrite, zeroed}
use Rattle.definitions.specs.Partition.{labels, region_count}
use Rattle.definitions.specs.RegionRecord.{Region}
use Rattle.definitions.specs.Context.{context_of}
use Rattle.definitions.specs.Rows.{rows_of, flat_rows}
use Rattle.definitions.specs.Refusals.{Refusal, or_else, unless, sides_fault, cells_fault, is_whole, pass_fault, spans_refusal, boundaries_fault, anchors_fault, elevations_fault}
use Rattle.definitions.specs.Verdict.{Lent, map_in, refusal, first_refusal, pair_rows_of, records_fault, pairs_fault, verdict}
use Rattle.definitions.specs.AtExit.{stage_of, untouched, tallies_of, records_of, records_at_exit, output_at_exit, exit_with, call_exit}
use Rattle.laws.specs.TableLaws.AcceptedCalls.{or_else-assoc}
use Rattle.areas.proofs.FirstRefusal.{first_joined}
use Rattle.call_partition.specs.Contract.{given, Ran}
use Rattle.call_partition.specs.Early.{sizes_refusal, entries_refusal, has_room_lem, early_refusal}
use Rattle.call_partition.proofs.EarlyLeaves.{early-untouched}

module _ (pass w h : ℕ) (cells spans boundaries anchors l m q t p : List ℕ) (s : List Region) (o : List ℕ) where
  abbrev L : Lent
  L = given pass w h cells spans boundaries anchors l m q t p s o

  abbrev M : Map
  M = map_of w h cells spans boundaries anchors

  abbrev early : Option Refusal
  early = early_refusal pass w h cells spans boundaries anchors (length l) (length m) (length q) (length t) (length o)

  abbrev late : List (Option Refusal)
  late = refusal 11 (records_fault L (map_in L)) ∷ refusal 12 (pairs_fault L (map_in L)) ∷ []

  abbrev kept : ℕ
  kept = length (rows_of pass (map_in L))

  -- the checks before it, one behind the other
  abbrev parts : Option Refusal
  parts =
      or_else (refusal 1 (sides_fault w h))
      (or_else (refusal 2 (cells_fault w h cells))
      (or_else (refusal 3 (unless (is_whole numbers_per_span spans && is_whole numbers_per_boundary boundaries && is_whole numbers_per_anchor anchors)))
      (or_else (refusal 4 (pass_fault pass))
      (or_else (spans_refusal w h spans)
      (or_else (refusal 7 (boundaries_fault w h boundaries))
      (or_else (refusal 8 (anchors_fault w h anchors))
      (or_else (refusal 9 (elevations_fault cells)) (refusal 10 (unless (has_room_lem w h spans boundaries (length l) (length m) (length q) (length t) (length o)))))))))))

  early-parts : early ≡ parts
  unfolding early_refusal sizes_refusal entries_refusal
  early-parts =
      or_else-assoc (refusal 1 (sides_fault w h)) _ _
      ∙ ap (or_else (refusal 1 (sides_fault w h)))
      (or_else-assoc (refusal 2 (cells_fault w h cells)) _ _
      ∙ ap (or_else (refusal 2 (cells_fault w h cells)))
      (or_else-assoc (refusal 3 (unless (is_whole numbers_per_span spans && is_whole numbers_per_boundary boundaries && is_whole numbers_per_anchor anchors))) (refusal 4 (pass_fault pass)) _
      ∙ ap (λ x. or_else (refusal 3 (unless (is_whole numbers_per_span spans && is_whole numbers_per_boundary boundaries && is_whole numbers_per_anchor anchors))) (or_else (refusal 4 (pass_fault pass)) x))
      (or_else-assoc (spans_refusal w h spans) _ _
      ∙ ap (or_else (spans_refusal w h spans))
      (or_else-assoc (refusal 7 (boundaries_fault w h boundaries)) _ _
      ∙ ap (or_else (refusal 7 (boundaries_fault w h boundaries))) (or_else-assoc (refusal 8 (anchors_fault w h anchors)) (refusal 9 (elevations_fault cells)) _)))))

  verdict-early : verdict L ≡ first_refusal (early ∷ late) kept
  unfolding verdict
  verdict-early =
      first_joined
      (refusal 1 (sides_fault w h)
      ∷ refusal 2 (cells_fault w h cells)
      ∷ refusal 3 (unless (is_whole numbers_per_span spans && is_whole numbers_per_boundary boundaries && is_whole numbers_per_anchor anchors))
      ∷ refusal 4 (pass_fault pass)
      ∷ spans_refusal w h spans
      ∷ refusal 7 (boundaries_fault w h boundaries)
      ∷ refusal 8 (anchors_fault w h anchors)
      ∷ refusal 9 (elevations_fault cells)
      ∷ [])
      (refusal 10 (unless (has_room_lem w h spans boundaries (length l) (length m) (length q) (length t) (length o))))
      late
      kept
      ∙ ap (λ x. first_refusal (x ∷ late) kept) (sym early-parts)

  -- ---- refused before it began

  pub ran-refused : (number place : ℕ) → Some (record { number = number; place = place }) ≡ early → Ran L (record { number = number; value = place }) l m q t p s o
  unfolding call_exit exit_with
  ran-refused number place e =
      let u : stage_of number ≡ untouched = early-untouched pass w h cells spans boundaries anchors (length l) (length m) (length q) (length t) (length o) _ (sym e) in
      record {
        answer = sym (verdict-early ∙ ap (λ x. first_refusal (x ∷ late) kept) (sym e));
        labels = sym (ap (λ g. (exit_with L g s o).labels) u);
        masks = sym (ap (λ g. (exit_with L g s o).masks) u);
        queue = sym (ap (λ g. (exit_with L g s o).queue) u);
        tallies = sym (ap (λ g. (exit_with L g s o).tallies) u);
        pairs = sym (ap (λ g. (exit_with L g s o).pairs) u);
        records = sym (ap (λ g. records_at_exit g (map_in L) s) u);
        output = sym (ap (λ g. output_at_exit g pass (map_in L) o) u);
      }

  -- ---- refused or done after it began

  -- the labels are filled, and masks and queue cleared over the needed length
  pub record Labelled (l' m' q' : List ℕ) : Type 0 where
    pub filled : l' ≡ overwrite (labels M) l
    pub masks : m' ≡ zeroed (h * w) m
    pub queue : q' ≡ zeroed (h * w) q

  pub verdict-late : None ≡ early → verdict L ≡ first_refusal late kept
  verdict-late e = verdict-early ∙ ap (λ x. first_refusal (x ∷ late) kept) (sym e)

  module _ (e : None ≡ early) (few : region_count M ≤ length s) where
    verdict_last : verdict L ≡ first_refusal (refusal 12 (pairs_fault L (map_in L)) ∷ []) kept
    unfolding records_fault map_in
    verdict_last = verdict-late e ∙ ap (λ b. first_refusal (refusal 11 (only_if (not b) 0) ∷ refusal 12 (pairs_fault L (map_in L)) ∷ []) kept) (le-leb _ _ few)

    pub verdict-kept : length (pair_rows_of (context_of M)) ≤ length p / numbers_per_pair * numbers_per_pair → verdict L ≡ record { number = 0; value = length (rows_of pass M) }
    unfolding pairs_fault map_in
    verdict-kept room = verdict_last ∙ ap (λ b. first_refusal (refusal 12 (only_if (not b) 0) ∷ []) kept) (le-leb _ _ room)

  module _ (e : None ≡ early) {l' m' q' t' : List ℕ} (B : Labelled l' m' q') where
    pub ran-records : length s < region_count M → t' ≡ zeroed (tallies_per_span * span_count M) t → Ran L (record { number = 11; value = 0 }) l' m' q' t' p s o
    unfolding call_exit exit_with stage_of records_fault cell_count map_in map_of
    ran-records more cleared =
        record {
          answer = sym (verdict-late e ∙ ap (λ b. first_refusal (refusal 11 (only_if (not b) 0) ∷ refusal 12 (pairs_fault L (map_in L)) ∷ []) kept) (lt-leb _ _ more));
          labels = B.filled;
          masks = B.masks;
          queue = B.queue;
          tallies = cleared;
          pairs = refl;
          records = refl;
          output = refl;
        }

    module _ (few : region_count M ≤ length s) (tallied : t' ≡ overwrite (tallies_of (context_of M)) t) where
      pub ran-pairs : {p' : List ℕ} → length p / numbers_per_pair * numbers_per_pair < length (pair_rows_of (context_of M)) → p' ≡ zeroed (length p) p → Ran L (record { number = 12; value = 0 }) l' m' q' t' p' s o
      unfolding call_exit exit_with stage_of pairs_fault cell_count map_in map_of
      ran-pairs more cleared =
          record {
            answer = sym (verdict_last e few ∙ ap (λ b. first_refusal (refusal 12 (only_if (not b) 0) ∷ []) kept) (lt-leb _ _ more));
            labels = B.filled;
            masks = B.masks;
            queue = B.queue;
            tallies = tallied;
            pairs = cleared;
            records = refl;
            output = refl;
          }

      pub ran_complete :
          {p' : List ℕ} → length (pair_rows_of (context_of M)) ≤ length p / numbers_per_pair * numbers_per_pair → p' ≡ overwrite (pair_rows_of (context_of M)) p → {s' : List Region} {o' : List ℕ} → s' ≡ overwrite (records_of (context_of M)) s
          → o' ≡ overwrite (flat_rows (rows_of pass M)) o → (n : ℕ) → n ≡ length (rows_of pass M) → Ran L (record { number = 0; value = n }) l' m' q' t' p' s' o'
      unfolding call_exit exit_with stage_of cell_count map_in map_of
      ran_complete room paired filled written n counted =
          record {
            answer = ap (λ k. record { number = 0; value = k }) counted ∙ sym (verdict-kept e few room);
            labels = B.filled;
            masks = B.masks;
            queue = B.queue;
            tallies = tallied;
            pairs = paired;
            records = filled;
            output = written;
          }
