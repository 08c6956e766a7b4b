-- Computed examples that a porter would get wrong: both sides of the thresholds (SPECIFICATION 16) that document 01 does not mark P, its four likely errors,
-- ties of the hypotenuse, total_order of 24 doubles, unequal counts, an anchor on a blocked cell, the diagonal rule, a side value of zero,
-- ramp cells counted region by region.
use Rattle.std.specs.Prelude.{ℕ, ◌-◌, ◌*◌, ◌≡◌, refl, Bool, true, not, ◌&&◌, cond, List, [], ◌∷◌, ◌++◌, map, length, get_or, eqb, pos}
use Rattle.std.specs.Float.{binary64}
use Rattle.std.specs.Float.Ieee.{of_bits, to_bits, lt}
use Rattle.definitions.specs.Scan.{all, run, concat_map}
use Rattle.definitions.specs.Grid.{Map, at, map_of}
use Rattle.definitions.specs.Spans.{cross}
use Rattle.definitions.specs.Partition.{labels}
use Rattle.definitions.specs.Hypotenuse.{hypot_of, hypot_number}
use Rattle.definitions.specs.TotalOrder.{total_order}
use Rattle.definitions.specs.RampGeometry.{segment_distance}
use Rattle.definitions.specs.RegionRecord.{region_of, dominance}
use Rattle.definitions.specs.Context.{context_of}
use Rattle.definitions.specs.RampMouths.{max_mouth_distance}
use Rattle.definitions.specs.Junctions.{within_span_radius}
use Rattle.definitions.specs.Rows.{removed_of, rows_of}
use Rattle.definitions.specs.CaseJ.{row}
use Rattle.definitions.specs.Cases.{width8, width16, segment, region_of_counts, same_numbers}

-- ---- the hypotenuse

-- the bits of the hypotenuse of two doubles given by their bits
unfoldable pub hypot_bits : ℕ → ℕ → ℕ
unfolding to_bits hypot_of of_bits
hypot_bits x y = to_bits binary64 (hypot_of (of_bits binary64 x) (of_bits binary64 y))

unfoldable pub number_of : ℕ → ℕ → ℕ
unfolding hypot_number of_bits
number_of x y = hypot_number (of_bits binary64 x) (of_bits binary64 y)

unfoldable pub hypot_examples : List Bool
unfolding hypot_bits number_of
hypot_examples =
    -- the exact root lies in the middle of two doubles: 10,247,559,438,486,793 half units goes down to the even significand,
    eqb (hypot_bits 0x408B95146A80E448 0x40C21F1B4712BE68) 0x40C2340CEE12A684
    -- and 11,177,791,640,515,787 goes up to it
    ∷ eqb (hypot_bits 0x40B7735837B91FD3 0x40C006248ED7952E) 0x40C3DB12360D9A66
    -- 0.1 and 1e-10
    ∷ eqb (hypot_bits 0x3FB999999999999A 0x3DDB7CDFD9D7BDBB) 0x3FB999999999999A
    -- signs do not count, and two negative zeros give +0
    ∷ eqb (hypot_bits 0xC008000000000000 0x4010000000000000) 0x4014000000000000
    ∷ eqb (hypot_bits 0x8000000000000000 0x8000000000000000) 0
    -- the range: from 2 ^ -64 to 2 ^ 15, or zero
    ∷ eqb (number_of 0x3BF0000000000000 0x40E0000000000000) 0
    ∷ eqb (number_of 0x3BEFFFFFFFFFFFFF 0x40E0000000000000) 13
    ∷ eqb (number_of 0x3BF0000000000000 0x40E0000000000001) 13
    ∷ eqb (number_of 0x8000000000000000 0xC0E0000000000000) 0
    ∷ eqb (number_of 0x7FF0000000000000 0) 13
    ∷ eqb (number_of 0 0x7FF8000000000000) 13
    ∷ []

pub hypot_examples_lem : all (λ b. b) hypot_examples ≡ true
unfolding all hypot_examples
hypot_examples_lem = refl

-- ---- squared limits in place of the Rust's rounded steps

-- The point (56, 322) is exactly 224 from the line through (0, 0) and (224, 168), which is 280 long: 62,720 = 224 * 280.
pub exactly_224 : cross (at 0 0) (at 224 168) (at 56 322) ≡ pos (224 * 280)
unfolding cross
exactly_224 = refl

-- As written, the rounded steps give a separation above 224, which a squared limit would let pass; with the second segment turned round they give 224.
unfoldable pub apart_as_written : Bool
unfolding lt max_mouth_distance segment_distance
apart_as_written = lt max_mouth_distance (segment_distance (segment 56 322 56 322) (segment 0 0 224 168))

unfoldable pub apart_turned : Bool
unfolding lt max_mouth_distance segment_distance
apart_turned = lt max_mouth_distance (segment_distance (segment 56 322 56 322) (segment 224 168 0 0))

-- ---- equal widths ranked by boundary number before endpoints

-- boundaries of these endpoints, widths and ramps (kind, id, lower and upper elevation), each with its span
unfoldable pub with_boundaries : ℕ → ℕ → List ℕ → List (List ℕ) → List (List ℕ) → List ℕ → Map
unfolding map_of concat_map
with_boundaries w h cells lines tails anchors =
    map_of w h cells (concat_map (λ l. l) lines) (concat_map (λ i. get_or lines i [] ++ get_or tails i []) (run 0 (length lines))) anchors

abbrev pub plain : List ℕ
plain = width8 ∷ 0 ∷ 0 ∷ 0 ∷ 0 ∷ []

-- Three cells in a row, each with an arm. Boundaries 0 (at pixel 16) and 1 (at 8) may both go, and each is a port of the other: 1 goes, by its endpoints.
unfoldable pub ranking : Map
unfolding with_boundaries
ranking =
    with_boundaries 3 3 (1 ∷ 0 ∷ 1 ∷ 1 ∷ 1 ∷ 1 ∷ 0 ∷ 1 ∷ 0 ∷ [])
    ((16 ∷ 8 ∷ 16 ∷ 16 ∷ []) ∷ (8 ∷ 8 ∷ 8 ∷ 16 ∷ []) ∷ (0 ∷ 8 ∷ 8 ∷ 8 ∷ []) ∷ (16 ∷ 8 ∷ 24 ∷ 8 ∷ []) ∷ (8 ∷ 16 ∷ 16 ∷ 16 ∷ []) ∷ [])
    (plain ∷ plain ∷ plain ∷ plain ∷ plain ∷ []) []

-- ---- a triangle tested against reserved regions instead of all occupied ones

-- The mouth 2 goes first, about the anchored region of cell (1, 1). The triangle of boundary 0 with ramp 1 meets that region, which no triangle has reserved,
-- and is refused.
unfoldable pub occupied : Map
unfolding with_boundaries
occupied =
    with_boundaries 3 4 (1 ∷ 0 ∷ 1 ∷ 1 ∷ 1 ∷ 1 ∷ 0 ∷ 1 ∷ 1 ∷ 0 ∷ 1 ∷ 1 ∷ [])
    ((16 ∷ 0 ∷ 16 ∷ 32 ∷ []) ∷ (16 ∷ 0 ∷ 24 ∷ 32 ∷ []) ∷ (8 ∷ 8 ∷ 8 ∷ 16 ∷ []) ∷ (0 ∷ 8 ∷ 8 ∷ 8 ∷ []) ∷ [])
    (plain ∷ (width8 ∷ 1 ∷ 7 ∷ 0 ∷ 1 ∷ []) ∷ (width16 ∷ 0 ∷ 0 ∷ 0 ∷ 0 ∷ []) ∷ (width8 ∷ 1 ∷ 8 ∷ 0 ∷ 1 ∷ []) ∷ []) (1 ∷ 1 ∷ [])

-- ---- rows of cells

-- n cells of elevation 0 in a row, the second a ramp, cut at every border: the first cut is ramp 7's Lower end, the last its Upper
unfoldable pub interior_row : ℕ → Map
unfolding map_of run concat_map
interior_row n =
    let cuts = run 1 (n - 1) in
    let line : ℕ → List ℕ = λ i. i * 8 ∷ 0 ∷ i * 8 ∷ 8 ∷ [] in
    let ramp : ℕ → List ℕ = λ i. cond (eqb i 1) (1 ∷ 7 ∷ 0 ∷ 1 ∷ []) (cond (eqb i (n - 1)) (2 ∷ 7 ∷ 0 ∷ 1 ∷ []) (0 ∷ 0 ∷ 0 ∷ 0 ∷ [])) in
    map_of n 1 (map (λ i. cond (eqb i 1) 3 1) (run 0 n)) (concat_map line cuts) (concat_map (λ i. line i ++ (width8 ∷ []) ++ ramp i) cuts) []

-- the three cells of the proved case of pass 1 and a fourth, whose byte is given, with these anchors
unfoldable pub anchored_cells : ℕ → List ℕ → Map
unfolding map_of
anchored_cells fourth anchors =
    map_of 4 1 (1 ∷ 1 ∷ 1 ∷ fourth ∷ []) (8 ∷ 0 ∷ 8 ∷ 8 ∷ 16 ∷ 0 ∷ 16 ∷ 8 ∷ [])
    (8 ∷ 0 ∷ 8 ∷ 8 ∷ width8 ∷ 0 ∷ 0 ∷ 0 ∷ 0 ∷ 16 ∷ 0 ∷ 16 ∷ 8 ∷ width8 ∷ 1 ∷ 7 ∷ 0 ∷ 1 ∷ []) anchors

-- the same with a third span, on the right edge, that has no boundary
unfoldable pub unequal_counts : Map
unfolding map_of
unequal_counts =
    map_of 3 1 (1 ∷ 1 ∷ 1 ∷ []) (8 ∷ 0 ∷ 8 ∷ 8 ∷ 16 ∷ 0 ∷ 16 ∷ 8 ∷ 24 ∷ 0 ∷ 24 ∷ 8 ∷ [])
    (16 ∷ 0 ∷ 16 ∷ 8 ∷ width8 ∷ 1 ∷ 7 ∷ 0 ∷ 1 ∷ 8 ∷ 0 ∷ 8 ∷ 8 ∷ width8 ∷ 0 ∷ 0 ∷ 0 ∷ 0 ∷ []) []

unfoldable pub examples : List Bool
unfolding apart_as_written apart_turned removed_of ranking occupied interior_row anchored_cells context_of dominance within_span_radius region_of_counts
examples =
    apart_as_written
    ∷ not apart_turned
    ∷ same_numbers (removed_of 3 ranking) (1 ∷ [])
    ∷ same_numbers (removed_of 1 occupied) (2 ∷ [])
    -- an anchored outer region leaves the mouth as it is; an anchored inner one does not; an anchor on a blocked cell is no region's
    ∷ same_numbers (removed_of 1 (anchored_cells 0 (0 ∷ 0 ∷ []))) (0 ∷ [])
    ∷ same_numbers (removed_of 1 (anchored_cells 0 (1 ∷ 0 ∷ []))) []
    ∷ same_numbers (removed_of 1 (anchored_cells 0 (3 ∷ 0 ∷ []))) (0 ∷ [])
    ∷ (context_of (anchored_cells 0 (3 ∷ 0 ∷ []))).anchored 0
    -- "Eight edges in an interior are allowed, nine skip it."
    ∷ same_numbers (removed_of 2 (interior_row 11)) (1 ∷ 2 ∷ 3 ∷ 4 ∷ 5 ∷ 6 ∷ 7 ∷ 8 ∷ [])
    ∷ same_numbers (removed_of 2 (interior_row 12)) []
    -- "Equal counts [..] choose the lower elevation", not of the empty record alone: 5 cells of elevation 0 and 5 of elevation 1; 4 and 6
    ∷ eqb (dominance (region_of_counts 10 5)).elevation 0
    ∷ eqb (dominance (region_of_counts 10 4)).elevation 1
    -- "Exactly 512 pixels is within the radius."
    ∷ within_span_radius (region_of_counts 1 1) (segment 512 0 512 8)
    ∷ not (within_span_radius (region_of_counts 1 1) (segment 513 0 513 8))
    ∷ []

pub examples-hold : all (λ b. b) examples ≡ true
unfolding all examples
examples-hold = refl

-- "If span and boundary counts differ, nothing is removed and the rows are still sorted."
pub unequal_counts_lem : rows_of 1 unequal_counts ≡ row 1 8 0 8 8 ∷ row 0 16 0 16 8 ∷ []
unfolding rows_of unequal_counts
unequal_counts_lem = refl

-- ---- steps and cuts

-- a diagonal step needs both side cells
pub diagonal-blocked : labels (map_of 2 2 (1 ∷ 0 ∷ 0 ∷ 1 ∷ []) [] [] []) ≡ 1 ∷ 0 ∷ 0 ∷ 2 ∷ []
unfolding labels map_of
diagonal-blocked = refl

-- a span through the centre of a cell: that cell counts with the positive side, so that a cut at its centre parts it from the cell to its right,
pub zero-parts : labels (map_of 2 1 (1 ∷ 1 ∷ []) (4 ∷ 0 ∷ 4 ∷ 8 ∷ []) [] []) ≡ 1 ∷ 2 ∷ []
unfolding labels map_of
zero-parts = refl

-- and not from the one to its left
pub zero-joins : labels (map_of 2 1 (1 ∷ 1 ∷ []) (12 ∷ 0 ∷ 12 ∷ 8 ∷ []) [] []) ≡ 1 ∷ 1 ∷ []
unfolding labels map_of
zero-joins = refl

-- ---- ramp cells (document 02, request 6)

-- six cells in a row: three walkable, the first and the third of them ramps; one with the ramp bit that is not walkable; two walkable, the first of them a ramp
unfoldable pub ramp_row : Map
unfolding map_of
ramp_row = map_of 6 1 (3 ∷ 1 ∷ 3 ∷ 2 ∷ 7 ∷ 1 ∷ []) [] [] []

-- each record counts its own; what is not walkable counts nowhere; a number that no region has gives none
pub ramp_cells-counted : map (λ r. (region_of ramp_row (labels ramp_row) r).ramp_cells_lem) (1 ∷ 2 ∷ 3 ∷ []) ≡ 2 ∷ 1 ∷ 0 ∷ []
unfolding ramp_row labels region_of
ramp_cells-counted = refl

-- ---- total_order

-- each stands before itself and before all behind it, and none of these before it
unfoldable pub rises : (ℕ → ℕ → Bool) → List ℕ → Bool
unfolding all
rises before [] = true
rises before (x ∷ l) = before x x && all (λ y. before x y && not (before y x)) l && rises before l

pub total_order-rises : rises total_order (
    -- NaNs with the sign set: quiet ones, the greater payload first, then signaling ones
    0xFFFFFFFFFFFFFFFF ∷ 0xFFF8000000000001 ∷ 0xFFF8000000000000 ∷ 0xFFF7FFFFFFFFFFFF ∷ 0xFFF0000000000001
    -- minus infinity, the least finite number, -1.5, -1, the least and the greatest of the negative subnormal numbers, -0
    ∷ 0xFFF0000000000000 ∷ 0xFFEFFFFFFFFFFFFF ∷ 0xBFF8000000000000 ∷ 0xBFF0000000000000 ∷ 0x800FFFFFFFFFFFFF ∷ 0x8000000000000001 ∷ 0x8000000000000000
    -- the same with the sign clear
    ∷ 0 ∷ 1 ∷ 0x000FFFFFFFFFFFFF ∷ 0x3FF0000000000000 ∷ 0x3FF8000000000000 ∷ 0x7FEFFFFFFFFFFFFF ∷ 0x7FF0000000000000
    ∷ 0x7FF0000000000001 ∷ 0x7FF7FFFFFFFFFFFF ∷ 0x7FF8000000000000 ∷ 0x7FF8000000000001 ∷ 0x7FFFFFFFFFFFFFFF ∷ []) ≡ true
unfolding rises total_order
total_order-rises = refl
