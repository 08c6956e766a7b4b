-- The premises of demand 3 are met by maps that differ and of which a pass removes a boundary of the island: for each pass two inputs, computed.
-- Outside the island they differ in cells, anchors and boundaries, so that its boundaries have other numbers and its regions other labels. Assumes nothing.
use Rattle.std.specs.Prelude.{ℕ, ◌*◌, ◌/◌, ◌%◌, ◌≡◌, refl, Bool, true, false, not, List, [], ◌∷◌, ◌++◌, length, get_or, take, drop, replicate, eqb, ltb, leb}
use Rattle.std.proofs.Common.{ap, ◌∙◌}
use Rattle.std.specs.Bool.{beq}
use Rattle.definitions.specs.Limits.{numbers_per_boundary, numbers_per_span}
use Rattle.definitions.specs.Scan.{any_below_lem, collect, only_if, gather, member}
use Rattle.definitions.specs.Grid.{Map, cell_count, boundary_of}
use Rattle.definitions.specs.Partition.{labels}
use Rattle.definitions.specs.RegionRecord.{empty_region}
use Rattle.definitions.specs.Rows.{Row, removed_of, is_kept, rows_from, rows_of}
use Rattle.definitions.specs.Verdict.{Lent, map_in, verdict}
use Rattle.definitions.specs.Cases.{width8}
use Rattle.definitions.specs.SheetExamples.{sheet_j}
use Rattle.island.specs.Premises.{cuts_island, has_anchor, rank_of, Alike, island_rows}
use Rattle.island.specs.Decide.{is_same_list}

-- ---- what is shown

-- the labels of the island's cells, row by row
unfoldable pub island_labels : Map → (ℕ → Bool) → List ℕ
unfolding labels collect cell_count
island_labels M isl =
    let ls = labels M in
    collect (cell_count M) (λ c. only_if (isl c) (get_or ls c 0))

-- of a pass, two inputs, an island, the number in each input of one boundary, and rows
pub record Shown (pass : ℕ) (L L' : Lent) (isl : ℕ → Bool) (i i' : ℕ) (rows : List Row) : Type 0 where
  -- both calls run the pass and succeed
  pub pass_is : L.pass ≡ pass
  pub pass_is' : L'.pass ≡ pass
  pub accepted : (verdict L).number ≡ 0
  pub accepted' : (verdict L').number ≡ 0
  pub premises : Alike (map_in L) (map_in L') isl
  -- the maps differ, which by the premises is outside the island, and so do labels and numbers on it
  pub cells_differ : is_same_list eqb L.cells L'.cells ≡ false
  pub anchors_differ : any_below_lem (cell_count (map_in L)) (λ c. not (beq (has_anchor (map_in L) c) (has_anchor (map_in L') c))) ≡ true
  pub boundaries_differ : is_same_list eqb L.boundaries L'.boundaries ≡ false
  pub labels_differ : is_same_list eqb (island_labels (map_in L) isl) (island_labels (map_in L') isl) ≡ false
  pub numbers_differ : eqb i i' ≡ false
  -- the two numbers are of counterparts
  pub cuts : cuts_island (map_in L) isl i ≡ true
  pub cuts' : cuts_island (map_in L') isl i' ≡ true
  pub ranks_agree : rank_of (map_in L) isl i ≡ rank_of (map_in L') isl i'
  pub removed : is_kept pass (map_in L) i ≡ false
  pub removed' : is_kept pass (map_in L') i' ≡ false
  pub rows_are_lem : island_rows pass (map_in L) isl ≡ rows
  pub rows_are' : island_rows pass (map_in L') isl ≡ rows

-- ---- what is kept, by what is removed, so that the pass is computed once

pub removed_from : (pass : ℕ) (M : Map) {gone : List ℕ} → removed_of pass M ≡ gone → (i : ℕ) → member i gone ≡ true → is_kept pass M i ≡ false
unfolding is_kept
removed_from pass M e i h = ap (λ g. not (member i g)) e ∙ ap not h

pub rows-without : (pass : ℕ) (M : Map) {gone : List ℕ} → removed_of pass M ≡ gone → rows_of pass M ≡ rows_from (length M.boundaries) (boundary_of M) (λ i. not (member i gone))
unfolding rows_of
rows-without pass M e = ap (λ gone. rows_from (length M.boundaries) (boundary_of M) (λ i. not (member i gone))) e

-- ---- how the inputs are written

-- the nine numbers of a boundary of width 8.0 with no ramp, and of one that is the end `kind` of a ramp
abbrev pub plain : ℕ → ℕ → ℕ → ℕ → List ℕ
plain a b c d = a ∷ b ∷ c ∷ d ∷ width8 ∷ 0 ∷ 0 ∷ 0 ∷ 0 ∷ []

abbrev pub ramp : ℕ → ℕ → ℕ → ℕ → ℕ → ℕ → List ℕ
ramp kind id a b c d = a ∷ b ∷ c ∷ d ∷ width8 ∷ kind ∷ id ∷ 0 ∷ 1 ∷ []

-- an input whose spans and boundaries are one list, with room for what the call writes
unfoldable pub input_of : ℕ → ℕ → ℕ → List ℕ → List ℕ → List ℕ → Lent
unfolding gather empty_region
input_of pass w h cells boundaries anchors =
    record {
      pass = pass;
      width = w;
      height = h;
      cells = cells;
      spans = gather (length boundaries / numbers_per_boundary) (λ i. take numbers_per_span (drop (numbers_per_boundary * i) boundaries));
      boundaries = boundaries;
      anchors = anchors;
      labels = replicate 24 0;
      masks = replicate 24 0;
      queue = replicate 24 0;
      tallies = replicate 24 0;
      pairs = replicate 24 0;
      records = replicate 10 empty_region;
      output = replicate 30 0;
    }

-- ---- pass 1

-- The island is the proved case "three cells in a row", behind three other cells and a blocked one. In the first map the other three are that case once more,
-- with another ramp, so that the pass removes a boundary there too; in the second a boundary of theirs comes first.
unfoldable pub mouth : Lent
unfolding input_of
mouth =
    input_of 1 7 1 (1 ∷ 1 ∷ 1 ∷ 0 ∷ 1 ∷ 1 ∷ 1 ∷ []) (plain 40 0 40 8 ++ ramp 1 7 48 0 48 8 ++ plain 8 0 8 8 ++ ramp 1 3 16 0 16 8) (0 ∷ 0 ∷ 4 ∷ 0 ∷ [])

unfoldable pub mouth' : Lent
unfolding input_of
mouth' = input_of 1 7 1 (5 ∷ 3 ∷ 0 ∷ 0 ∷ 1 ∷ 1 ∷ 1 ∷ []) (ramp 2 9 8 0 8 8 ++ plain 40 0 40 8 ++ ramp 1 7 48 0 48 8) (4 ∷ 0 ∷ 1 ∷ 0 ∷ 4 ∷ 0 ∷ [])

abbrev pub behind_four : ℕ → Bool
behind_four c = leb 4 c

pub mouth-removes : removed_of 1 (map_in mouth) ≡ 2 ∷ 0 ∷ []
unfolding removed_of map_in mouth
mouth-removes = refl

pub mouth'-removes : removed_of 1 (map_in mouth') ≡ 1 ∷ []
unfolding removed_of map_in mouth'
mouth'-removes = refl

-- ---- pass 2

-- The island is the proved case "four cells of elevation 0", likewise. In the second map the other cells' boundary stands between the island's.
unfoldable pub interior : Lent
unfolding input_of
interior =
    input_of 2 8 1 (1 ∷ 1 ∷ 1 ∷ 0 ∷ 1 ∷ 3 ∷ 1 ∷ 1 ∷ [])
    (ramp 1 7 40 0 40 8 ++ plain 48 0 48 8 ++ ramp 2 7 56 0 56 8 ++ ramp 1 3 8 0 8 8 ++ ramp 2 3 16 0 16 8)
    (7 ∷ 0 ∷ 0 ∷ 0 ∷ [])

unfoldable pub interior' : Lent
unfolding input_of
interior' =
    input_of 2 8 1 (1 ∷ 5 ∷ 0 ∷ 0 ∷ 1 ∷ 3 ∷ 1 ∷ 1 ∷ []) (ramp 1 7 40 0 40 8 ++ plain 8 0 8 8 ++ plain 48 0 48 8 ++ ramp 2 7 56 0 56 8) (7 ∷ 0 ∷ 7 ∷ 0 ∷ [])

pub interior-removes : removed_of 2 (map_in interior) ≡ 1 ∷ []
unfolding removed_of map_in interior
interior-removes = refl

pub interior'-removes : removed_of 2 (map_in interior') ≡ 2 ∷ []
unfolding removed_of map_in interior'
interior'-removes = refl

-- ---- pass 3

-- The island is case J, with a blocked column and another one to its right; in the second map the other column's boundary comes first.
unfoldable pub junction : Lent
unfolding input_of
junction =
    input_of 3 6 3
    (0 ∷ 1 ∷ 0 ∷ 0 ∷ 0 ∷ 1
    ∷ 1 ∷ 1 ∷ 1 ∷ 1 ∷ 0 ∷ 1
    ∷ 0 ∷ 0 ∷ 1 ∷ 0 ∷ 0 ∷ 1 ∷ [])
    (sheet_j.boundaries ++ plain 40 8 48 8)
    (1 ∷ 0 ∷ 5 ∷ 0 ∷ [])

unfoldable pub junction' : Lent
unfolding input_of
junction' =
    input_of 3 6 3
    (0 ∷ 1 ∷ 0 ∷ 0 ∷ 0 ∷ 0
    ∷ 1 ∷ 1 ∷ 1 ∷ 1 ∷ 0 ∷ 5
    ∷ 0 ∷ 0 ∷ 1 ∷ 0 ∷ 4 ∷ 3 ∷ [])
    (ramp 1 3 40 16 48 16 ++ sheet_j.boundaries)
    (1 ∷ 0 ∷ 1 ∷ 0 ∷ [])

abbrev pub first_four : ℕ → Bool
first_four c = ltb (c % 6) 4

pub junction-removes : removed_of 3 (map_in junction) ≡ 0 ∷ []
unfolding removed_of map_in junction
junction-removes = refl

pub junction'-removes : removed_of 3 (map_in junction') ≡ 1 ∷ []
unfolding removed_of map_in junction'
junction'-removes = refl
