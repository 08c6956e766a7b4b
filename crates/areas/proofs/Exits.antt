-- The contract of the partition from what its parts leave: where a check before it refuses, where there are more pairs than rows, and where all is filled. The answer
-- follows the chain of checks, and each list at exit is what the table says for that number. Assumes nothing.
use Prim.Native.Nat.{ℕ, ◌*◌, ◌/◌, ◌≤◌, ◌<◌}
use mathlib.Core.Path.{◌≡◌, sym, ap, ◌∙◌}
use mathlib.Core.Bool.{not}
use Rattle.std.specs.Prelude.{Option, None, Some, Ok, Err}
use mathlib.Core.List.{List, [], ◌∷◌}
use lib.ListN.{length}
use borrow.Author.Tests.{le-leb, lt-leb}
use Rattle.definitions.specs.Limits.{numbers_per_span, numbers_per_pair}
use Rattle.definitions.specs.Scan.{only_if}
use Rattle.definitions.specs.Grid.{Map, map_of, cell_count}
use Rattle.definitions.specs.Lists.{overwrite, zeroed}
use Rattle.definitions.specs.Partition.{labels, region_count}
use Rattle.definitions.specs.Context.{context_of}
use Rattle.definitions.specs.Refusals.{Refusal, unless, sides_fault, cells_fault, is_whole, spans_refusal}
use Rattle.definitions.specs.Verdict.{Lent, map_in, refusal, first_refusal, partition_has_room, pair_rows_of, pairs_fault, partition_verdict}
use Rattle.definitions.specs.AtExit.{stage_of, untouched, tallies_of, exit_with, partition_exit}
use Rattle.refusals.specs.declared.Refusal as code
use Rattle.refusals.specs.declared.Cause.TheVariants.{Pairs}
use Rattle.refusals.specs.Refusals.{refusal_of}
use Rattle.areas.specs.Contract.{given, early_refusal, Ran}
use Rattle.areas.proofs.FirstRefusal.{first_joined}
use Rattle.areas.proofs.Early.{early-untouched}

module _ (w h : ℕ) (cells spans l m q t p : List ℕ) where
  abbrev L : Lent
  L = given w h cells spans l m q t p

  abbrev M : Map
  M = map_in L

  abbrev early : Option Refusal
  early = early_refusal w h cells spans (length l) (length m) (length q) (length t)

  abbrev rows : List ℕ
  rows = pair_rows_of (context_of M)

  verdict-early : partition_verdict L ≡ first_refusal (early ∷ refusal 12 (pairs_fault L M) ∷ []) (region_count M)
  unfolding partition_verdict early_refusal
  verdict-early =
      first_joined
      (refusal 1 (sides_fault w h)
      ∷ refusal 2 (cells_fault w h cells)
      ∷ refusal 3 (unless (is_whole numbers_per_span spans))
      ∷ spans_refusal w h spans
      ∷ [])
      (refusal 10 (unless (partition_has_room L)))
      (refusal 12 (pairs_fault L M) ∷ [])
      (region_count M)

  pub ran-refused : (r : code.Refusal) → Some (refusal_of r) ≡ early → Ran L (Err r) l m q t p
  unfolding partition_exit exit_with
  ran-refused r e =
      let u : stage_of (refusal_of r).number ≡ untouched = early-untouched w h cells spans (length l) (length m) (length q) (length t) _ (sym e) in
      record {
        answer = sym (verdict-early ∙ ap (λ o. first_refusal (o ∷ refusal 12 (pairs_fault L M) ∷ []) (region_count M)) (sym e));
        labels = sym (ap (λ s. (exit_with L s [] []).labels) u);
        masks = sym (ap (λ s. (exit_with L s [] []).masks) u);
        queue = sym (ap (λ s. (exit_with L s [] []).queue) u);
        tallies = sym (ap (λ s. (exit_with L s [] []).tallies) u);
        pairs = sym (ap (λ s. (exit_with L s [] []).pairs) u);
      }

  -- the partition went on: the labels are filled, and masks and queue cleared, which were written over the needed length alone
  pub record Labelled (l' m' q' : List ℕ) : Type 0 where
    pub filled : l' ≡ overwrite (labels M) l
    pub masks : m' ≡ zeroed (h * w) m
    pub queue : q' ≡ zeroed (h * w) q

  verdict-late : None ≡ early → partition_verdict L ≡ first_refusal (refusal 12 (pairs_fault L M) ∷ []) (region_count M)
  verdict-late e = verdict-early ∙ ap (λ o. first_refusal (o ∷ refusal 12 (pairs_fault L M) ∷ []) (region_count M)) (sym e)

  module _ (e : None ≡ early) {l' m' q' t' p' : List ℕ} (B : Labelled l' m' q') (tallied : t' ≡ overwrite (tallies_of (context_of M)) t) where
    pub ran_complete : (regions : ℕ) → regions ≡ region_count M → length rows ≤ length p / numbers_per_pair * numbers_per_pair → p' ≡ overwrite rows p → Ran L (Ok regions) l' m' q' t' p'
    unfolding partition_exit exit_with stage_of pairs_fault cell_count map_in map_of
    ran_complete regions c room filled =
        record {
          answer = ap (λ n. record { number = 0; value = n }) c ∙ sym (verdict-late e ∙ ap (λ b. first_refusal (refusal 12 (only_if (not b) 0) ∷ []) (region_count M)) (le-leb _ _ room));
          labels = B.filled;
          masks = B.masks;
          queue = B.queue;
          tallies = tallied;
          pairs = filled;
        }

    pub ran-pairs : length p / numbers_per_pair * numbers_per_pair < length rows → p' ≡ zeroed (length p) p → Ran L (Err (record { cause = Pairs; place = 0 })) l' m' q' t' p'
    unfolding partition_exit exit_with stage_of pairs_fault cell_count map_in map_of
    ran-pairs more cleared =
        record {
          answer = sym (verdict-late e ∙ ap (λ b. first_refusal (refusal 12 (only_if (not b) 0) ∷ []) (region_count M)) (lt-leb _ _ more));
          labels = B.filled;
          masks = B.masks;
          queue = B.queue;
          tallies = tallied;
          pairs = cleared;
        }
