-- Lists that checks 1 to 10 of the call let pass fit the partition: those of its checks that the partition has too refuse nothing. Assumes nothing.
use Prim.Native.Nat.{ℕ, ◌*◌, ◌/◌}
use mathlib.Core.Path.{◌≡◌, sym, ap}
use mathlib.Core.Bool.{Bool, true, ◌&&◌}
use Rattle.std.specs.Prelude.{None}
use mathlib.Core.List.{List}
use lib.ListN.{length}
use Rattle.definitions.specs.Limits.{numbers_per_span, numbers_per_boundary, numbers_per_anchor}
use Rattle.definitions.specs.Refusals.{unless, sides_fault, cells_fault, is_whole, spans_refusal, partition_room, output_room}
use Rattle.definitions.specs.Verdict.{refusal}
use Rattle.laws.specs.ListLaws.Tests.{both}
use Rattle.laws.specs.ListLaws.NoFault.{no_fault_lem, or_else_none}
use Rattle.laws.specs.TableLaws.AcceptedCalls.{refusal_none}
use Rattle.areas.specs.Contract as partition
use Rattle.areas.specs.Fit.{Fit}
use Rattle.refusals.proofs.Steps.{next}
use Rattle.areas.proofs.Early.{early-fit}
use Rattle.call_partition.specs.Early.{sizes_refusal, entries_refusal, early_refusal}

fits : (number : ℕ) {ok : Bool} → ok ≡ true → refusal number (unless ok) ≡ None
fits number e = ap (λ b. refusal number (unless b)) e

module _ (pass w h : ℕ) (cells spans boundaries anchors : List ℕ) (l m q t o : ℕ) where
  partition_passes : early_refusal pass w h cells spans boundaries anchors l m q t o ≡ None → partition.early_refusal w h cells spans l m q t ≡ None
  unfolding early_refusal sizes_refusal entries_refusal partition.early_refusal
  partition_passes e =
      let sizes = or_else_none (sizes_refusal pass w h cells spans boundaries anchors) _ e in
      let entries = or_else_none (entries_refusal w h cells spans boundaries anchors) _ sizes.1 in
      let one = or_else_none (refusal 1 (sides_fault w h)) _ sizes.0 in
      let two = or_else_none (refusal 2 (cells_fault w h cells)) _ one.1 in
      let three = or_else_none (refusal 3 (unless (is_whole numbers_per_span spans && is_whole numbers_per_boundary boundaries && is_whole numbers_per_anchor anchors))) _ two.1 in
      let five = or_else_none (spans_refusal w h spans) _ entries.0 in
      let whole = both (is_whole numbers_per_span spans && is_whole numbers_per_boundary boundaries) (is_whole numbers_per_anchor anchors) (no_fault_lem _ 0 (refusal_none 3 _ three.0)) in
      let room = both (partition_room (w * h) (length spans / numbers_per_span) l m q t) (output_room (length boundaries / numbers_per_boundary) o) (no_fault_lem _ 0 (refusal_none 10 _ entries.1)) in
      sym (next one.0 (next two.0 (next (fits 3 (both (is_whole numbers_per_span spans) (is_whole numbers_per_boundary boundaries) whole.0).0) (next five.0 (sym (fits 10 room.0))))))

  pub early-fits : early_refusal pass w h cells spans boundaries anchors l m q t o ≡ None → Fit w h cells spans l m q t
  early-fits e = early-fit w h cells spans l m q t (partition_passes e)
