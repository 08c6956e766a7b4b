-- What `early_refusal` says: none, and the lists fit; or a refusal whose number leaves every list as it was. Assumes nothing.
use Prim.Native.Nat.{ℕ, ◌*◌, ◌/◌, ◌%◌, ◌≤◌, ◌<◌}
use native.Mathlib.Nat.{mul_comm}
use mathlib.Core.Path.{◌≡◌, refl, ◌∙◌, subst}
use mathlib.Core.Bool.{true, not, ◌&&◌}
use Rattle.std.specs.Prelude.{None, Some}
use mathlib.Core.List.{List}
use lib.ListN.{length}
use lib.Dec.{eqb, leb}
use borrow.Author.Tests.{eqb-true, leb-true}
use Rattle.definitions.specs.Limits.{is_side, max_entries, numbers_per_span, tallies_per_span}
use Rattle.definitions.specs.Scan.{only_if}
use Rattle.definitions.specs.Grid.{Segment, segment_at}
use Rattle.definitions.specs.Refusals.{Refusal, or_else, unless, sides_fault, cells_fault, is_whole, both_on_map, endpoints_differ, spans_refusal, partition_room}
use Rattle.definitions.specs.Verdict.{refusal}
use Rattle.definitions.specs.AtExit.{stage_of, untouched}
use Rattle.laws.specs.ListLaws.Tests.{both}
use Rattle.laws.specs.ListLaws.NoFault.{no_fault_lem, none_at, or_else_none}
use Rattle.laws.specs.TableLaws.AcceptedCalls.{refusal_none}
use Rattle.laws.specs.FloatLaws.MapPixels.{side-bounds}
use Rattle.areas.specs.Contract.{early_refusal}
use Rattle.areas.specs.Fit.{Fit}
use Rattle.areas.proofs.Leaving.{Leaves, leaves_or, leaves-refusal, leaves_only, leaves_first}

-- ---- the spans

pub spans_leave : (w h : ℕ) (spans : List ℕ) → Leaves (spans_refusal w h spans)
unfolding spans_refusal stage_of
spans_leave w h spans =
    leaves_first _ (λ i. leaves_or _ _ (leaves_only (not (both_on_map w h (at i))) _ refl) (leaves_only (not (endpoints_differ (at i))) _ refl)) (length spans / numbers_per_span)
  where
    at : ℕ → Segment
    at i = segment_at spans (numbers_per_span * i)

-- ---- all checks before the partition

module _ (w h : ℕ) (cells spans : List ℕ) (labels masks queue tallies : ℕ) where
  early-leaves : Leaves (early_refusal w h cells spans labels masks queue tallies)
  unfolding early_refusal stage_of
  early-leaves =
      leaves_or _ _ (leaves-refusal 1 (sides_fault w h) refl)
      (leaves_or _ _ (leaves-refusal 2 (cells_fault w h cells) refl)
      (leaves_or _ _ (leaves-refusal 3 (unless (is_whole numbers_per_span spans)) refl)
      (leaves_or _ _ (spans_leave w h spans) (leaves-refusal 10 (unless (partition_room (w * h) (length spans / numbers_per_span) labels masks queue tallies)) refl))))

  pub early-untouched : (x : Refusal) → early_refusal w h cells spans labels masks queue tallies ≡ Some x → stage_of x.number ≡ untouched
  unfolding Leaves
  early-untouched x e = subst Leaves e early-leaves

  -- each check passed
  record Passed : Type 0 where
    sides : (is_side w && is_side h) ≡ true
    counted : eqb (length cells) (w * h) ≡ true
    whole : is_whole numbers_per_span spans ≡ true
    spans_fit_lem : spans_refusal w h spans ≡ None
    room : partition_room (w * h) (length spans / numbers_per_span) labels masks queue tallies ≡ true

  early-passed : early_refusal w h cells spans labels masks queue tallies ≡ None → Passed
  unfolding early_refusal
  early-passed e =
      let one = or_else_none (refusal 1 (sides_fault w h)) _ e in
      let two = or_else_none (refusal 2 (cells_fault w h cells)) _ one.1 in
      let three = or_else_none (refusal 3 (unless (is_whole numbers_per_span spans))) _ two.1 in
      let five = or_else_none (spans_refusal w h spans) _ three.1 in
      record {
        sides = no_fault_lem _ 0 (refusal_none 1 _ one.0);
        counted = no_fault_lem _ 0 (refusal_none 2 _ two.0);
        whole = no_fault_lem _ 0 (refusal_none 3 _ three.0);
        spans_fit_lem = five.0;
        room = no_fault_lem _ 0 (refusal_none 10 _ five.1);
      }

  at_span : spans_refusal w h spans ≡ None → (i : ℕ) → i < length spans / numbers_per_span → (both_on_map w h (segment_at spans (numbers_per_span * i)) ≡ true) × (endpoints_differ (segment_at spans (numbers_per_span * i)) ≡ true)
  unfolding spans_refusal
  at_span e i l =
      let both-none = or_else_none _ _ (none_at (λ k. or_else (only_if (not (both_on_map w h (segment_at spans (numbers_per_span * k)))) (record { number = 5; place = k })) (only_if (not (endpoints_differ (segment_at spans (numbers_per_span * k)))) (record { number = 6; place = k }))) (length spans / numbers_per_span) e i l) in
      (no_fault_lem _ _ both-none.0, no_fault_lem _ _ both-none.1)

  pub early-fit : early_refusal w h cells spans labels masks queue tallies ≡ None → Fit w h cells spans labels masks queue tallies
  early-fit e =
      let p = early-passed e in
      let s = both (is_side w) (is_side h) p.sides in
      let ws = side-bounds w s.0 in
      let hs = side-bounds h s.1 in
      let n = mul_comm w h in
      let r3 = both (leb (w * h) labels && leb (w * h) masks && leb (w * h) queue) (leb (tallies_per_span * (length spans / numbers_per_span)) tallies) p.room in
      let r2 = both (leb (w * h) labels && leb (w * h) masks) (leb (w * h) queue) r3.0 in
      let r1 = both (leb (w * h) labels) (leb (w * h) masks) r2.0 in
      let few = both (eqb (length spans % numbers_per_span) 0) (leb (length spans / numbers_per_span) max_entries) p.whole in
      record {
        checked = record {
          wide = ws.0;
          narrow = ws.1;
          tall = hs.0;
          short = hs.1;
          cells_long = eqb-true (length cells) (w * h) p.counted ∙ n;
          on_map = λ i l. (at_span p.spans_fit_lem i l).0;
          differ = λ i l. (at_span p.spans_fit_lem i l).1;
        };
        few = leb-true (length spans / numbers_per_span) max_entries few.1;
        labels_long = subst (λ k. k ≤ labels) n (leb-true (w * h) labels r1.0);
        masks_long = subst (λ k. k ≤ masks) n (leb-true (w * h) masks r1.1);
        queue_long_lem = subst (λ k. k ≤ queue) n (leb-true (w * h) queue r2.1);
        tallies_long = leb-true (tallies_per_span * (length spans / numbers_per_span)) tallies r3.1;
      }
