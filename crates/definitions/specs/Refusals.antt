-- The checks of the table of SPECIFICATION 4 that look at what is lent, numbers 1 to 10: each gives the first faulty place, or none. Quotations are of the table of SPECIFICATION 4.
-- Assumes nothing; entries of the lists are 64-bit numbers and cells are bytes, as their element types have it.
use Rattle.std.specs.Prelude.{ℕ, zero, suc, ◌+◌, ◌*◌, ◌/◌, ◌%◌, ◌^◌, Bool, not, ◌&&◌, ◌||◌, List, length, get_or, eqb, ltb, leb, Option, None, Some}
use Rattle.std.specs.Float.{binary64}
use Rattle.std.specs.Float.Ieee.{of_bits, le}
use Rattle.definitions.specs.Limits.{is_side, max_entries, numbers_per_span, numbers_per_boundary, numbers_per_anchor, tallies_per_span, numbers_per_row}
use Rattle.definitions.specs.Scan.{only_if}
use Rattle.definitions.specs.Grid.{Position, Segment, Boundary, segment_at, boundary_at, is_walkable, elevation}
use Rattle.definitions.specs.Spans.{pixels_per_walk_cell}
use Rattle.definitions.specs.Geometry.{float}

abbrev pub or_else : {A : Type 0} → Option A → Option A → Option A
or_else None b = b
or_else (Some a) b = Some a

-- "Places are the first faulty one": what f says at the first number below n at which it says anything
unfoldable pub first_below_lem : {A : Type 0} → ℕ → (ℕ → Option A) → Option A
first_below_lem zero f = None
first_below_lem (suc n) f = or_else (first_below_lem n f) (f n)

-- the first number below n that fails the test
abbrev pub first_faulty : ℕ → (ℕ → Bool) → Option ℕ
first_faulty n fits = first_below_lem n (λ i. only_if (not (fits i)) i)

-- a fault with place 0
abbrev pub unless : Bool → Option ℕ
unless ok = only_if (not ok) 0

-- 1: "a side is 0 or over 1,024"
abbrev pub sides_fault : ℕ → ℕ → Option ℕ
sides_fault w h = unless (is_side w && is_side h)

-- 2: "cells are not width × height"
abbrev pub cells_fault : ℕ → ℕ → List ℕ → Option ℕ
cells_fault w h cells = unless (eqb (length cells) (w * h))

-- 3: "over 256 spans, boundaries or anchors, or a last entry unfinished", of one of the lists
abbrev pub is_whole : ℕ → List ℕ → Bool
is_whole size l = eqb (length l % size) 0 && leb (length l / size) max_entries

-- 4: "pass not 1, 2 or 3"
abbrev pub pass_fault : ℕ → Option ℕ
pass_fault pass = unless (leb 1 pass && leb pass 3)

-- "above 8 × width or 8 × height"
abbrev pub is_on_map : ℕ → ℕ → Position → Bool
is_on_map w h p = leb p.x (pixels_per_walk_cell * w) && leb p.y (pixels_per_walk_cell * h)

abbrev pub both_on_map : ℕ → ℕ → Segment → Bool
both_on_map w h s = is_on_map w h s.a && is_on_map w h s.b

abbrev pub endpoints_differ : Segment → Bool
endpoints_differ s = not (eqb s.a.x s.b.x && eqb s.a.y s.b.y)

-- a refusal: its number and its place
pub record Refusal : Type 0 where
  pub number : ℕ
  pub place : ℕ

-- 5: "span endpoint above 8 × width or 8 × height"; 6: "span endpoints equal". "Numbers 5 and 6 are tested span by span, 5 first."
unfoldable pub spans_refusal : ℕ → ℕ → List ℕ → Option Refusal
unfolding first_below_lem
spans_refusal w h spans =
    first_below_lem (length spans / numbers_per_span)
    (λ i.
    let s = segment_at spans (numbers_per_span * i) in
    or_else (only_if (not (both_on_map w h s)) (record { number = 5; place = i })) (only_if (not (endpoints_differ s)) (record { number = 6; place = i })))

-- "width not finite, sign bit set, or over 65,536": neither a NaN nor an infinity is at most 65,536
unfoldable pub width_fits : ℕ → Bool
unfolding le of_bits float
width_fits bits = ltb bits (2 ^ 63) && le (of_bits binary64 bits) (float 65536)

-- "kind over 2; id over 32 bits; elevation over 7; kind 0 with a non-zero tail"
abbrev pub ramp_fits : Boundary → Bool
ramp_fits b =
    leb b.kind 2 && ltb b.ramp_id (2 ^ 32) && leb b.lower 7 && leb b.upper 7
    && (not (eqb b.kind 0) || (eqb b.ramp_id 0 && eqb b.lower 0 && eqb b.upper 0))

-- 7. (Equal endpoints are refused of spans only.)
unfoldable pub boundary_fits : ℕ → ℕ → Boundary → Bool
unfolding width_fits
boundary_fits w h b = both_on_map w h b.endpoints && width_fits b.width_bits && ramp_fits b

unfoldable pub boundaries_fault : ℕ → ℕ → List ℕ → Option ℕ
unfolding first_below_lem boundary_fits
boundaries_fault w h boundaries = first_faulty (length boundaries / numbers_per_boundary) (λ i. boundary_fits w h (boundary_at boundaries (numbers_per_boundary * i)))

-- 8: "anchor outside the grid"
unfoldable pub anchors_fault : ℕ → ℕ → List ℕ → Option ℕ
unfolding first_below_lem
anchors_fault w h anchors =
    first_faulty (length anchors / numbers_per_anchor) (λ i. ltb (get_or anchors (numbers_per_anchor * i) 0) w && ltb (get_or anchors (numbers_per_anchor * i + 1) 0) h)

-- 9: "walkable cell of elevation 4 or more"
unfoldable pub elevations_fault : List ℕ → Option ℕ
unfolding first_below_lem
elevations_fault cells = first_faulty (length cells) (λ c. not (is_walkable (get_or cells c 0) && leb 4 (elevation (get_or cells c 0))))

-- 10: "labels, masks, queue, tallies or output too short", of lists of these lengths; partitioning alone needs no output
abbrev pub partition_room : ℕ → ℕ → ℕ → ℕ → ℕ → ℕ → Bool
partition_room cells spans labels masks queue tallies = leb cells labels && leb cells masks && leb cells queue && leb (tallies_per_span * spans) tallies

abbrev pub output_room : ℕ → ℕ → Bool
output_room boundaries output = leb (numbers_per_row * boundaries) output
