-- The table of a call that runs a pass has no number from 21 on. The argument: each of its checks has a lower one, or none. Assumes nothing.
use Prim.Native.Nat.{ℕ, zero, suc, ◌*◌, ◌/◌, ◌<◌}
use native.Mathlib.Omega.{arith}
use mathlib.Core.Bool.{Bool, true, false, not, ◌&&◌}
use Rattle.std.specs.Prelude.{Option, None, Some}
use mathlib.Core.List.{List}
use lib.ListN.{length}
use Rattle.definitions.specs.Limits.{numbers_per_span, numbers_per_boundary, numbers_per_anchor}
use Rattle.definitions.specs.Scan.{only_if}
use Rattle.definitions.specs.Grid.{Segment, segment_at}
use Rattle.definitions.specs.Refusals.{Refusal, or_else, first_below_lem, unless, sides_fault, cells_fault, is_whole, pass_fault, both_on_map, endpoints_differ, spans_refusal, boundaries_fault, anchors_fault, elevations_fault, output_room}
use Rattle.definitions.specs.Rows.{rows_of}
use Rattle.laws.specs.ListLaws.Lists.{All, done, more}
use Rattle.definitions.specs.Verdict.{Lent, map_in, refusal, first_refusal, records_fault, pairs_fault, partition_has_room, verdict}

data Before : Option Refusal → Type 0 where
  no_number : Before None
  of_number : {r : Refusal} → r.number < 21 → Before (Some r)

of_refusal : (number : ℕ) (place : Option ℕ) → number < 21 → Before (refusal number place)
of_refusal number None h = no_number
of_refusal number (Some place) h = of_number h

of_either : {x y : Option Refusal} → Before x → Before y → Before (or_else x y)
of_either no_number k = k
of_either (of_number h) k = of_number h

of_only : (t : Bool) (r : Refusal) → r.number < 21 → Before (only_if t r)
of_only true r h = of_number h
of_only false r h = no_number

of_below : (f : ℕ → Option Refusal) → ((i : ℕ) → Before (f i)) → (n : ℕ) → Before (first_below_lem n f)
unfolding first_below_lem
of_below f h zero = no_number
of_below f h (suc n) = of_either (of_below f h n) (h n)

-- 5 and 6
of_spans : (w h : ℕ) (spans : List ℕ) → Before (spans_refusal w h spans)
unfolding spans_refusal
of_spans w h spans =
    of_below _ (λ i. of_either (of_only (not (both_on_map w h (at i))) (record { number = 5; place = i }) (omega arith)) (of_only (not (endpoints_differ (at i))) (record { number = 6; place = i }) (omega arith)))
    (length spans / numbers_per_span)
  where
    at : ℕ → Segment
    at i = segment_at spans (numbers_per_span * i)

of_first : {l : List (Option Refusal)} (count : ℕ) → All Before l → (first_refusal l count).number < 21
of_first count done = omega arith
of_first count (more no_number a) = of_first count a
of_first count (more (of_number h) a) = h

pub verdict-before : (L : Lent) → (verdict L).number < 21
unfolding verdict
verdict-before L =
    of_first (length (rows_of L.pass (map_in L)))
    (more (of_refusal 1 (sides_fault L.width L.height) (omega arith))
    (more (of_refusal 2 (cells_fault L.width L.height L.cells) (omega arith))
    (more (of_refusal 3 (unless (is_whole numbers_per_span L.spans && is_whole numbers_per_boundary L.boundaries && is_whole numbers_per_anchor L.anchors)) (omega arith))
    (more (of_refusal 4 (pass_fault L.pass) (omega arith))
    (more (of_spans L.width L.height L.spans)
    (more (of_refusal 7 (boundaries_fault L.width L.height L.boundaries) (omega arith))
    (more (of_refusal 8 (anchors_fault L.width L.height L.anchors) (omega arith))
    (more (of_refusal 9 (elevations_fault L.cells) (omega arith))
    (more (of_refusal 10 (unless (partition_has_room L && output_room (length L.boundaries / numbers_per_boundary) (length L.output))) (omega arith))
    (more (of_refusal 11 (records_fault L (map_in L)) (omega arith))
    (more (of_refusal 12 (pairs_fault L (map_in L)) (omega arith)) done)))))))))))
