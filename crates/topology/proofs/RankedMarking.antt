-- The parts of `mark_ranked`: the viewed lists are what pass 3 is lent, and what it leaves is what the call asks. Assumes nothing.
use Prim.Native.Nat.{ℕ, ◌/◌, zero-le}
use native.Mathlib.Omega.{arith}
use mathlib.Core.Path.{◌≡◌, refl, sym}
use mathlib.Core.Bool.{Bool}
use mathlib.Core.List.{List}
use lib.ListN.{length}
use Rattle.definitions.specs.Limits.{numbers_per_boundary}
use Rattle.definitions.specs.Grid.{Map}
use Rattle.definitions.specs.Context.{Context, context_of}
use Rattle.definitions.specs.Rows.{removed_by}
use Rattle.std.specs.Prelude.{Option}
use Rattle.context.specs.declared.Region.{Region}
use Rattle.region_pairs.specs.declared.Pair.{Pair}
use Rattle.pass_lists.specs.Contract.{Viewed}
use Rattle.ranked_list.specs.RankedList.{flat_ranked}
use Rattle.ranked_rows.specs.declared.RankedRow.{RankedRow}
use Rattle.ranked_rows.specs.Contract.{row_numbers}
use Rattle.topology.specs.Mouths.{NoMarks}
use Rattle.topology.specs.Proposals.{Passes, Unmarked}
use Rattle.topology.specs.Marks.{Lent}
use Rattle.topology.specs.Ranked.{Ranked, RankedFor}
use Rattle.topology.proofs.Marking.{unmarked_lent}

module _ (M : Map) {records : List Region} {w needed : ℕ} {labels anchors : List ℕ} {regions rows count : ℕ} {boundaries tallies pairs : List ℕ} {masks queue : ℕ}
    (L : Lent M records w needed labels anchors regions rows count boundaries tallies pairs masks queue) where
  abbrev C : Context
  C = context_of M

  -- pass 3 does not run
  pub unranked-lent : {m q : List ℕ} {was : List Bool} {old : List RankedRow} → (length boundaries / numbers_per_boundary ≡ count → ⊥) → RankedFor M needed count boundaries m q m q was was old old 0
  unfolding row_numbers flat_ranked
  unranked-lent d = record { marked = unmarked_lent M L d; equal = λ e. absurd (d e); differ = λ _. record { within = zero-le; list = refl; numbers = refl; rest = refl } }

  counted : C.count ≡ count
  counted = L.partitioned.paired.counted

  labelled : C.regions ≡ regions
  unfolding context_of
  labelled = sym L.partitioned.regions_are

  module _ (same : length boundaries / numbers_per_boundary ≡ count) where
    pub unmarked_here : {removed : List Bool} → NoMarks removed → Unmarked removed count
    unmarked_here n = record { long = omega (arith, n.long, (L.bounds same).few, counted); clear = λ j _. n.clear j }

    module _ {m q m' q' starts : List ℕ} {full : List (Option Pair)} (S : Viewed M needed pairs m q m' q' starts full) where
      pub lent-passes : Passes C records boundaries full q' m' count regions
      lent-passes =
          record {
            shown =
                record {
                  counted = counted;
                  labelled = labelled;
                  labels = omega (arith, L.on_map.few, labelled);
                  bounds = L.bounds same;
                  pairs = S.shown_full;
                  incidents = S.shown_incidents;
                  anchored = S.shown_anchored;
                  sound = L.on_map.sound;
                  pixels = L.on_map.pixels;
                };
            held = L.held;
            counted = L.on_map.counted;
          }

      pub ranked-lent : {was removed : List Bool} {old listed : List RankedRow} {n : ℕ} → Ranked C count removed old listed n
          → RankedFor M needed count boundaries m q m' q' was removed old listed n
      unfolding removed_by
      ranked-lent r =
          record {
            marked =
                record {
                  equal = λ _ i less. r.removes.at i (omega (arith, counted, less));
                  differ = λ d. absurd (d same);
                  masks = S.masks;
                  queue = S.queue;
                };
            equal = λ _. r.lists;
            differ = λ d. absurd (d same);
          }
