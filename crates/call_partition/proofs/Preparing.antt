-- The contract of the first part of the call, from labels, cleared or kept scratch, and assessed spans. Assumes nothing.
use Prim.Native.Nat.{ℕ, ◌*◌, ◌/◌, ◌≤◌, ◌<◌}
use native.Mathlib.Omega.{arith}
use mathlib.Core.Path.{◌≡◌, refl, sym, ap, ◌∙◌, subst}
use Rattle.std.specs.Prelude.{Option, None, Some}
use mathlib.Core.List.{List}
use lib.ListN.{length}
use Rattle.definitions.specs.Limits.{numbers_per_span, tallies_per_span}
use Rattle.definitions.specs.Grid.{Map, map_of, cell_count}
use Rattle.definitions.specs.Lists.{zeroed}
use Rattle.definitions.specs.Partition.{region_count}
use Rattle.definitions.specs.RegionRecord.{Region}
use Rattle.definitions.specs.Context.{context_of}
use Rattle.definitions.specs.Verdict.{pair_rows_of}
use Rattle.row_runs.specs.Contract.{Labelled as LabelledCells}
use Rattle.cut_steps.specs.Contract.{SpanMap}
use Rattle.cut_steps.proofs.CutLaws.{span_count_lem}
use Rattle.assessments.specs.Contract.{Answers, AssessedAs, SpansAssessed}
use Rattle.areas.specs.Labelled.{LabelledAs}
use Rattle.areas.proofs.Labelling.{zeroed-again}
use Rattle.areas.proofs.Dividing.{labels-shown, cleared-whole}
use Rattle.call_partition.specs.Early.{early_refusal}
use Rattle.call_partition.specs.Contract.{given, Ran}
use Rattle.call_partition.specs.Prepared.{ReadyAs}
use Rattle.call_partition.proofs.Exits.{Labelled, ran-refused, ran-records, ran-pairs}

module _ (pass w h : ℕ) (cells spans boundaries anchors : List ℕ) where
  abbrev M : Map
  M = map_of w h cells spans boundaries anchors

  -- the map of a call, for the partition of its spans
  span-map : SpanMap w h cells spans M
  unfolding map_of
  span-map = record { width = refl; height = refl; cells = refl; spans = refl }

  module _ (room output : ℕ) (l m q t p : List ℕ) where
    -- a check before it refuses
    pub refused-before : (number place : ℕ) → Some (record { number = number; place = place }) ≡ early_refusal pass w h cells spans boundaries anchors (length l) (length m) (length q) (length t) output
        → (s : List Region) (o : List ℕ) → length s ≡ room → length o ≡ output → Ran (given pass w h cells spans boundaries anchors l m q t p s o) (record { number = number; value = place }) l m q t p s o
    refused-before number place e s o long wide =
        ran-refused pass w h cells spans boundaries anchors l m q t p s o number place (e ∙ ap (early_refusal pass w h cells spans boundaries anchors (length l) (length m) (length q) (length t)) (sym wide))

    module _ (e : None ≡ early_refusal pass w h cells spans boundaries anchors (length l) (length m) (length q) (length t) output) {l' m₁ q₁ : List ℕ} {r : ℕ} (A : LabelledAs w h cells spans l m q l' m₁ q₁ r) where
      labelled : LabelledCells M l q l' q₁ r
      labelled = A.maps M span-map

      begun : {m' q' : List ℕ} → m' ≡ zeroed (h * w) m₁ → q' ≡ zeroed (h * w) q₁ → (s : List Region) (o : List ℕ) → Labelled pass w h cells spans boundaries anchors l m q t p s o l' m' q'
      unfolding map_of cell_count
      begun em eq s o =
          record {
            filled = labelled.labels;
            masks = em ∙ zeroed-again (h * w) m m₁ A.rest;
            queue = eq ∙ zeroed-again (h * w) q q₁ labelled.beyond;
          }

      early : (o : List ℕ) → length o ≡ output → None ≡ early_refusal pass w h cells spans boundaries anchors (length l) (length m) (length q) (length t) (length o)
      early o wide = e ∙ ap (early_refusal pass w h cells spans boundaries anchors (length l) (length m) (length q) (length t)) (sym wide)

      -- more regions than records
      pub refused-records : {m' q' t' : List ℕ} → room < r → m' ≡ zeroed (h * w) m₁ → q' ≡ zeroed (h * w) q₁ → t' ≡ zeroed (tallies_per_span * (length spans / numbers_per_span)) t
          → (s : List Region) (o : List ℕ) → length s ≡ room → length o ≡ output → Ran (given pass w h cells spans boundaries anchors l m q t p s o) (record { number = 11; value = 0 }) l' m' q' t' p s o
      refused-records more em eq et s o long wide =
          ran-records pass w h cells spans boundaries anchors l m q t p s o (early o wide) (begun em eq s o) (omega (arith, labelled.count, long, more)) (et ∙ ap (λ n. zeroed (tallies_per_span * n) t) (sym (span_count_lem span-map)))

      module _ (few : r ≤ room) {t' p₁ : List ℕ} {a : Option ℕ} (S : SpansAssessed w h cells spans l' t p t' p₁ a) where
        assessed : AssessedAs M t p t' p₁ a
        unfolding map_of
        assessed = S M span-map (labels-shown M l labelled.labels)

        enough : region_count M ≤ room
        enough = omega (arith, labelled.count, few)

        -- more pairs than rows
        pub refused-pairs : {m' q' p' : List ℕ} → a ≡ None → m' ≡ zeroed (h * w) m₁ → q' ≡ zeroed (h * w) q₁ → p' ≡ zeroed (length p₁) p₁
            → (s : List Region) (o : List ℕ) → length s ≡ room → length o ≡ output → Ran (given pass w h cells spans boundaries anchors l m q t p s o) (record { number = 12; value = 0 }) l' m' q' t' p' s o
        refused-pairs x em eq ep s o long wide =
            let rows = subst (λ y. Answers y (pair_rows_of (context_of M)) p p₁) x assessed.answer in
            ran-pairs pass w h cells spans boundaries anchors l m q t p s o (early o wide) (begun em eq s o) (omega (arith, enough, long)) assessed.counts rows.0 (ep ∙ cleared-whole p p₁ rows.1)

        pub all-ready : {n : ℕ} → a ≡ Some n → ReadyAs pass w h cells spans boundaries anchors room output l m q t p r n l' m₁ q₁ t' p₁
        unfolding map_of cell_count
        all-ready x =
            let rows = subst (λ y. Answers y (pair_rows_of (context_of M)) p p₁) x assessed.answer in
            record {
              accepted = e;
              count = labelled.count;
              enough = enough;
              filled = labelled.labels;
              masks = A.rest;
              chain = labelled.chain;
              queue = labelled.beyond;
              tallied = assessed.counts;
              fits = rows.0;
              row_count_lem = rows.1;
              paired = rows.2;
            }
