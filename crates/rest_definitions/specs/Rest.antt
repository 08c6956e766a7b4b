-- Running the passes to rest (document 02, request 4), over a map in row order with canonical endpoints. What is still kept is the list of the kept places of
-- the starting list, ascending, so in row order. Quotations are of the request. Definitions only. Assumes nothing.
use Rattle.std.specs.Prelude.{ℕ, zero, suc, Bool, true, false, not, List, map, length, get_or, eqb}
use Rattle.definitions.specs.Scan.{collect, only_if, member, run}
use Rattle.definitions.specs.Grid.{Map, boundary_of}
use Rattle.definitions.specs.Rows.{Row, removed_of}
use Rattle.rest_definitions.specs.RowOrder.{start_rows, no_row, map_with, start_map}

-- "each partitioned by the boundaries still kept": the map of the boundaries at these places
unfoldable pub kept_map : Map → List ℕ → Map
unfolding map_with boundary_of
kept_map N places = map_with N (map (boundary_of N) places)

-- the places that a pass leaves of these. Its boundaries' numbers are positions in the list of places.
unfoldable pub passed : ℕ → Map → List ℕ → List ℕ
unfolding removed_of kept_map collect member
passed pass N places =
    let gone = removed_of pass (kept_map N places) in
    collect (length places) (λ k. only_if (not (member k gone)) (get_or places k 0))

-- "passes 1, 2, 3 in a round"
unfoldable pub round : Map → List ℕ → List ℕ
unfolding passed
round N places = passed 3 N (passed 2 N (passed 1 N places))

pub record Rested : Type 0 where
  pub rounds : ℕ
  pub places : List ℕ

abbrev pub one_more_lem : Rested → Rested
one_more_lem r = record { rounds = suc r.rounds; places = r.places }

-- "until a round removes none": the test says whether the last round removed none. The first argument bounds the rounds that follow, and is never what ends
-- them (`Rounds.antt`).
unfoldable pub rest_from : ℕ → Bool → Map → List ℕ → Rested
unfolding round
rest_from zero still N places = record { rounds = 0; places = places }
rest_from (suc n) true N places = record { rounds = 0; places = places }
rest_from (suc n) false N places =
    let after = round N places in
    one_more_lem (rest_from n (eqb (length after) (length places)) N after)

-- from all places: "Every round but the last removes at least one", so that one round more than there are boundaries is enough
unfoldable pub rested : Map → Rested
unfolding rest_from run
rested N = rest_from (suc (length N.boundaries)) false N (run 0 (length N.boundaries))

-- ---- of a map as lent

-- "The round count is returned"
unfoldable pub rounds_of : Map → ℕ
unfolding rested start_map
rounds_of M = (rested (start_map M)).rounds

-- the kept rows; "printed numbers are those of the starting list"
unfoldable pub rest_rows : Map → List Row
unfolding rested start_map start_rows
rest_rows M =
    let rows = start_rows M in
    map (λ k. get_or rows k no_row) (rested (start_map M)).places

-- the map of the last pass, which is that of what is kept at the end, since the last round removes none
unfoldable pub last_map : Map → Map
unfolding kept_map start_map rested
last_map M = kept_map (start_map M) (rested (start_map M)).places
