-- The cases that document 01 marks P (SPECIFICATION 16), in its order, as one list of tests on the definitions, and one theorem: each holds.
use Rattle.std.specs.Prelude.{ℕ, ◌-◌, ◌≡◌, refl, Bool, true, false, not, cond, List, [], ◌∷◌, eqb, Option, None, Some}
use Rattle.std.specs.Float.{binary64}
use Rattle.std.specs.Float.Ieee.{to_bits}
use Rattle.definitions.specs.Scan.{all}
use Rattle.definitions.specs.Grid.{Map, Segment, at, map_of}
use Rattle.definitions.specs.Hypotenuse.{hypot_of}
use Rattle.definitions.specs.Geometry.{float}
use Rattle.definitions.specs.RegionRecord.{Region, empty_region, dominance, accepts}
use Rattle.definitions.specs.Context.{Context}
use Rattle.definitions.specs.MouthShapes.{MouthShape, single, star, mouth_shape}
use Rattle.definitions.specs.Junctions.{Proposal, is_near_port, pick_bridge}
use Rattle.definitions.specs.Rows.{removed_of}
use Rattle.definitions.specs.CaseJ.{pair}

-- ---- bits of widths

abbrev pub width8 : ℕ
width8 = 0x4020000000000000

abbrev pub width16 : ℕ
width16 = 0x4030000000000000

abbrev pub width15_5 : ℕ
width15_5 = 0x402F000000000000

-- ---- tests

abbrev pub is_none : {A : Type 0} → Option A → Bool
is_none None = true
is_none (Some a) = false

abbrev pub same_numbers : List ℕ → List ℕ → Bool
same_numbers [] [] = true
same_numbers [] (y ∷ m) = false
same_numbers (x ∷ l) [] = false
same_numbers (x ∷ l) (y ∷ m) = cond (eqb x y) (same_numbers l m) false

abbrev pub removes : Option Proposal → ℕ → Bool
removes None i = false
removes (Some p) i = eqb p.index i

abbrev pub is_star_about : Option MouthShape → ℕ → Bool
is_star_about None outer = false
is_star_about (Some (single p)) outer = false
is_star_about (Some (star r inner)) outer = eqb r outer

-- ---- what the tests are asked of

abbrev pub segment : ℕ → ℕ → ℕ → ℕ → Segment
segment a b c d = record { a = at a b; b = at c d }

-- n cells, of which k of elevation 0 and the others of elevation 1
unfoldable pub region_of_counts : ℕ → ℕ → Region
unfolding float
region_of_counts n k =
    record {
      cells = n;
      min_x_lem = float 0;
      min_y_lem = float 0;
      max_x_lem = float 8;
      max_y_lem = float 8;
      ramp_cells_lem = 0;
      elevations = cond (eqb n k) 1 3;
      elevation_counts_lem = k ∷ (n - k) ∷ 0 ∷ 0 ∷ [];
    }

-- two boundaries with no ramp, of these endpoints and widths, about a flat region of one cell
unfoldable pub two_boundaries : Segment → Segment → ℕ → ℕ → Context
unfolding region_of_counts
two_boundaries s t a b =
    record {
      count = 2;
      regions = 1;
      boundary = λ i. record { endpoints = cond (eqb i 0) s t; width_bits = cond (eqb i 0) a b; kind = 0; ramp_id = 0; lower = 0; upper = 0 };
      removed_edges = λ i. 0;
      separated_edges = λ i. 0;
      pairs = λ i. [];
      anchored = λ r. false;
      region = λ r. region_of_counts 1 1;
    }

-- the pocket's two shared ports are boundaries 0 and 1, of these widths; all is near
unfoldable pub picked : ℕ → ℕ → Option Proposal
unfolding pick_bridge two_boundaries
picked a b = pick_bridge (two_boundaries (segment 0 0 0 8) (segment 0 0 0 8) a b) 1 0 1 1

-- boundaries of centres 0, 0 and d / 2, 0 are within the port distance
unfoldable pub port_at : ℕ → Bool
unfolding is_near_port two_boundaries
port_at d = is_near_port (two_boundaries (segment 0 0 0 0) (segment 0 0 d 0) width8 width8) 0 1

-- three cells in a row cut at pixels 8 and 16, the second a Lower ramp
unfoldable pub three_cells : Map
unfolding map_of
three_cells =
    map_of 3 1 (1 ∷ 1 ∷ 1 ∷ []) (8 ∷ 0 ∷ 8 ∷ 8 ∷ 16 ∷ 0 ∷ 16 ∷ 8 ∷ [])
    (8 ∷ 0 ∷ 8 ∷ 8 ∷ width8 ∷ 0 ∷ 0 ∷ 0 ∷ 0 ∷ 16 ∷ 0 ∷ 16 ∷ 8 ∷ width8 ∷ 1 ∷ 7 ∷ 0 ∷ 1 ∷ []) []

-- four cells of elevation 0 cut likewise at 8, 16, 24: ramp 7 Lower, none, ramp 7 Upper, one middle cell a ramp
unfoldable pub four_cells : Map
unfolding map_of
four_cells =
    map_of 4 1 (1 ∷ 3 ∷ 1 ∷ 1 ∷ []) (8 ∷ 0 ∷ 8 ∷ 8 ∷ 16 ∷ 0 ∷ 16 ∷ 8 ∷ 24 ∷ 0 ∷ 24 ∷ 8 ∷ [])
    (8 ∷ 0 ∷ 8 ∷ 8 ∷ width8 ∷ 1 ∷ 7 ∷ 0 ∷ 1 ∷ 16 ∷ 0 ∷ 16 ∷ 8 ∷ width8 ∷ 0 ∷ 0 ∷ 0 ∷ 0 ∷ 24 ∷ 0 ∷ 24 ∷ 8 ∷ width8 ∷ 2 ∷ 7 ∷ 0 ∷ 1 ∷ []) []

-- ---- the list

unfoldable pub cases : List Bool
unfolding to_bits hypot_of float port_at dominance region_of_counts empty_region picked mouth_shape removed_of three_cells four_cells
cases =
    -- "hypotenuse 3, 4 gives 5; 0, 0 gives 0; 1, 1 gives bits 3FF6A09E667F3BCD hexadecimal"
    eqb (to_bits binary64 (hypot_of (float 3) (float 4))) (to_bits binary64 (float 5))
    ∷ eqb (to_bits binary64 (hypot_of (float 0) (float 0))) 0
    ∷ eqb (to_bits binary64 (hypot_of (float 1) (float 1))) 0x3FF6A09E667F3BCD
    -- "port distance 384 passes, 384.5 doesn't"
    ∷ port_at 768
    ∷ not (port_at 769)
    -- "99 cells of 100 dominate, 98 of 99 don't. Equal counts, as in the empty record, choose the lower elevation."
    ∷ accepts (dominance (region_of_counts 100 99)).share
    ∷ eqb (dominance (region_of_counts 100 99)).elevation 0
    ∷ not (accepts (dominance (region_of_counts 99 98)).share)
    ∷ eqb (dominance empty_region).elevation 0
    -- document 02, request 2: "A region with no cells has no share", and no share is not 99 percent
    ∷ is_none (dominance empty_region).share
    ∷ not (accepts (dominance empty_region).share)
    -- "bridge widths 16 and 8 pick the 16; 15.5 and 8 pick none", whichever comes first
    ∷ removes (picked width16 width8) 0
    ∷ removes (picked width8 width16) 1
    ∷ is_none (picked width15_5 width8)
    ∷ is_none (picked width8 width15_5)
    -- "pairs [1,2], [1,3] form a star with outer 1; [1,2], [3,4] don't"
    ∷ is_star_about (mouth_shape true (pair 1 2 ∷ pair 1 3 ∷ [])) 1
    ∷ is_none (mouth_shape true (pair 1 2 ∷ pair 3 4 ∷ []))
    -- "three cells in a row [..]: pass 1 removes the first"
    ∷ same_numbers (removed_of 1 three_cells) (0 ∷ [])
    -- "four cells of elevation 0 [..]: pass 2 removes the middle"
    ∷ same_numbers (removed_of 2 four_cells) (1 ∷ [])
    ∷ []

pub cases-hold : all (λ b. b) cases ≡ true
unfolding all cases
cases-hold = refl
