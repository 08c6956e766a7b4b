-- A refusal of checks 1 to 10 leaves every lent list as it was. Assumes nothing.
use Prim.Native.Nat.{ℕ}
use mathlib.Core.Path.{◌≡◌, refl, subst}
use mathlib.Core.Bool.{◌&&◌}
use Rattle.std.specs.Prelude.{Some}
use mathlib.Core.List.{List}
use Rattle.definitions.specs.Limits.{numbers_per_span, numbers_per_boundary, numbers_per_anchor}
use Rattle.definitions.specs.Refusals.{Refusal, unless, sides_fault, cells_fault, is_whole, pass_fault, boundaries_fault, anchors_fault, elevations_fault}
use Rattle.definitions.specs.AtExit.{stage_of, untouched}
use Rattle.areas.proofs.Leaving.{Leaves, leaves_or, leaves-refusal}
use Rattle.areas.proofs.Early.{spans_leave}
use Rattle.call_partition.specs.Early.{sizes_refusal, entries_refusal, has_room_lem, early_refusal}

module _ (pass w h : ℕ) (cells spans boundaries anchors : List ℕ) (l m q t o : ℕ) where
  sizes_leave : Leaves (sizes_refusal pass w h cells spans boundaries anchors)
  unfolding sizes_refusal stage_of
  sizes_leave =
      leaves_or _ _ (leaves-refusal 1 (sides_fault w h) refl)
      (leaves_or _ _ (leaves-refusal 2 (cells_fault w h cells) refl)
      (leaves_or _ _ (leaves-refusal 3 (unless (is_whole numbers_per_span spans && is_whole numbers_per_boundary boundaries && is_whole numbers_per_anchor anchors)) refl) (leaves-refusal 4 (pass_fault pass) refl)))

  entries_leave : Leaves (entries_refusal w h cells spans boundaries anchors)
  unfolding entries_refusal stage_of
  entries_leave =
      leaves_or _ _ (spans_leave w h spans)
      (leaves_or _ _ (leaves-refusal 7 (boundaries_fault w h boundaries) refl)
      (leaves_or _ _ (leaves-refusal 8 (anchors_fault w h anchors) refl) (leaves-refusal 9 (elevations_fault cells) refl)))

  early-leaves : Leaves (early_refusal pass w h cells spans boundaries anchors l m q t o)
  unfolding early_refusal stage_of
  early-leaves = leaves_or _ _ sizes_leave (leaves_or _ _ entries_leave (leaves-refusal 10 (unless (has_room_lem w h spans boundaries l m q t o)) refl))

  pub early-untouched : (x : Refusal) → early_refusal pass w h cells spans boundaries anchors l m q t o ≡ Some x → stage_of x.number ≡ untouched
  unfolding Leaves
  early-untouched x e = subst Leaves e early-leaves
