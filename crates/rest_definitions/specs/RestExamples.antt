-- Runs to rest, computed: one that rests at once, two of three rounds, case J, one in which pass 3 opens the way for pass 1, the refusals that are the call's
-- own, and the lists at exit. All stand in one list of tests, the shortest first, so that each is computed once. Assumes nothing.
use Rattle.std.specs.Prelude.{ℕ, ◌*◌, ◌/◌, ◌≡◌, refl, Bool, true, ◌&&◌, List, [], ◌∷◌, ◌++◌, map, length, replicate, take, drop, get_or, eqb}
use Rattle.definitions.specs.Limits.{numbers_per_boundary, numbers_per_span}
use Rattle.definitions.specs.Scan.{all, gather}
use Rattle.definitions.specs.Grid.{Map}
use Rattle.definitions.specs.RegionRecord.{empty_region}
use Rattle.definitions.specs.Rows.{flat_rows}
use Rattle.definitions.specs.Verdict.{Lent, map_in}
use Rattle.definitions.specs.CaseJ.{map_j}
use Rattle.definitions.specs.Cases.{width8, region_of_counts, same_numbers}
use Rattle.rest_definitions.specs.RowOrder.{start_rows, start_map, no_row}
use Rattle.rest_definitions.specs.Rest.{rested}
use Rattle.rest_definitions.specs.RestVerdict.{RestAnswer, rest_verdict}
use Rattle.rest_definitions.specs.RestExit.{rest_exit}

-- ---- how the inputs are written

-- the nine numbers of a boundary of width 8.0 with no ramp, and of one that is the end `kind` of a ramp
abbrev pub plain : ℕ → ℕ → ℕ → ℕ → List ℕ
plain a b c d = a ∷ b ∷ c ∷ d ∷ width8 ∷ 0 ∷ 0 ∷ 0 ∷ 0 ∷ []

abbrev pub ramp : ℕ → ℕ → ℕ → ℕ → ℕ → ℕ → List ℕ
ramp kind id a b c d = a ∷ b ∷ c ∷ d ∷ width8 ∷ kind ∷ id ∷ 0 ∷ 1 ∷ []

-- an input whose spans are the endpoints of its boundaries, with room for what the run writes
unfoldable pub input_of : ℕ → ℕ → List ℕ → List ℕ → List ℕ → Lent
unfolding gather empty_region
input_of w h cells boundaries anchors =
    record {
      pass = 0;
      width = w;
      height = h;
      cells = cells;
      spans = gather (length boundaries / numbers_per_boundary) (λ i. take numbers_per_span (drop (numbers_per_boundary * i) boundaries));
      boundaries = boundaries;
      anchors = anchors;
      labels = replicate 24 0;
      masks = replicate 24 0;
      queue = replicate 24 0;
      tallies = replicate 24 0;
      pairs = replicate 24 0;
      records = replicate 10 empty_region;
      output = replicate 35 0;
    }

-- ---- the maps

-- at rest at once: two cells and the boundary between them
unfoldable pub still : Lent
unfolding input_of
still = input_of 2 1 (1 ∷ 1 ∷ []) (plain 8 8 8 0) []

-- three rounds: four cells in a row, the ramp at one end, its list written backwards. A round takes the mouth that is next to the ramp's own region.
unfoldable pub corridor : Lent
unfolding input_of
corridor = input_of 4 1 (1 ∷ 1 ∷ 1 ∷ 1 ∷ []) (ramp 1 7 24 8 24 0 ++ plain 16 0 16 8 ++ plain 8 0 8 8) []

-- a ring of rooms and a ramp in it. The first round takes a mouth (4) and a junction (0); only then is boundary 5 a mouth of the ramp.
unfoldable pub ring : Lent
unfolding input_of
ring =
    input_of 3 7
    (5 ∷ 5 ∷ 5
    ∷ 5 ∷ 0 ∷ 5
    ∷ 5 ∷ 5 ∷ 5
    ∷ 5 ∷ 0 ∷ 5
    ∷ 5 ∷ 5 ∷ 5
    ∷ 5 ∷ 0 ∷ 5
    ∷ 5 ∷ 0 ∷ 5 ∷ [])
    (plain 0 12 8 12 ++ plain 16 28 24 28 ++ plain 16 12 24 12 ++ ramp 1 2 16 12 16 28 ++ plain 12 28 12 44 ++ plain 8 0 8 8 ++ plain 16 48 24 48)
    []

-- the corridor with lists to fill that are longer than needed, and none of it zero
unfoldable pub soiled_corridor : Lent
unfolding corridor region_of_counts
soiled_corridor =
    record {
      pass = 0;
      width = corridor.width;
      height = corridor.height;
      cells = corridor.cells;
      spans = corridor.spans;
      boundaries = corridor.boundaries;
      anchors = [];
      labels = replicate 5 9;
      masks = replicate 5 8;
      queue = replicate 5 7;
      tallies = replicate 7 5;
      pairs = replicate 10 4;
      records = replicate 5 (region_of_counts 3 2);
      output = replicate 16 6;
    }

-- the corridor, lent this many records and pair rows
unfoldable pub corridor_in : ℕ → ℕ → Lent
unfolding corridor empty_region
corridor_in records rows =
    record {
      pass = 0;
      width = corridor.width;
      height = corridor.height;
      cells = corridor.cells;
      spans = corridor.spans;
      boundaries = corridor.boundaries;
      anchors = [];
      labels = replicate 4 0;
      masks = replicate 4 0;
      queue = replicate 4 0;
      tallies = replicate 6 0;
      pairs = replicate (3 * rows) 0;
      records = replicate records empty_region;
      output = replicate 15 0;
    }

-- a map of four cells in a row with these spans and boundaries
unfoldable pub answer_to : List ℕ → List ℕ → List ℕ → RestAnswer
unfolding rest_verdict empty_region
answer_to cells spans boundaries =
    rest_verdict
    (record {
      pass = 9;
      width = 4;
      height = 1;
      cells = cells;
      spans = spans;
      boundaries = boundaries;
      anchors = [];
      labels = replicate 4 0;
      masks = replicate 4 0;
      queue = replicate 4 0;
      tallies = replicate 4 0;
      pairs = replicate 6 0;
      records = replicate 3 empty_region;
      output = replicate 10 0;
    })

-- ---- how they are tested

abbrev is : RestAnswer → ℕ → ℕ → ℕ → Bool
is a number value rounds = eqb a.number number && eqb a.value value && eqb a.rounds rounds

abbrev flat : List ℕ
flat = 1 ∷ 1 ∷ 1 ∷ 1 ∷ []

abbrev one : List ℕ
one = 8 ∷ 0 ∷ 8 ∷ 8 ∷ []

abbrev two : List ℕ
two = 8 ∷ 0 ∷ 8 ∷ 8 ∷ 16 ∷ 0 ∷ 16 ∷ 8 ∷ []

-- whether the run on this map takes so many rounds and keeps these rows. `rounds_of` and `rest_rows` read both from `rested`.
unfoldable pub keeps : Map → ℕ → List ℕ → Bool
unfolding rested start_map start_rows flat_rows
keeps M rounds kept =
    let rows = start_rows M in
    let end = rested (start_map M) in
    eqb end.rounds rounds && same_numbers (flat_rows (map (λ k. get_or rows k no_row) end.places)) kept

-- labels, tallies, pairs, cells of each record, and output, one after the other
abbrev filled : Lent → List ℕ
filled L = L.labels ++ L.tallies ++ L.pairs ++ map (λ r. r.cells) L.records ++ L.output

unfoldable pub rest_examples : List Bool
unfolding answer_to rest_verdict corridor_in still corridor soiled_corridor ring map_in start_rows rest_exit keeps map_j flat_rows
rest_examples =
    is (rest_verdict still) 0 1 1
    -- row order, with canonical endpoints and the numbers as lent
    ∷ same_numbers (flat_rows (start_rows (map_in corridor))) (2 ∷ 8 ∷ 0 ∷ 8 ∷ 8 ∷ 1 ∷ 16 ∷ 0 ∷ 16 ∷ 8 ∷ 0 ∷ 24 ∷ 0 ∷ 24 ∷ 8 ∷ [])
    -- no pass is asked for: pass 9 is no fault
    ∷ is (answer_to flat two (plain 8 0 8 8 ++ plain 16 0 16 8)) 0 2 1
    ∷ is (answer_to flat [] []) 0 0 1
    -- 16: a count that differs, at the first entry that one list alone has
    ∷ is (answer_to flat two (plain 8 0 8 8)) 16 1 0
    ∷ is (answer_to flat one (plain 8 0 8 8 ++ plain 16 0 16 8)) 16 1 0
    ∷ is (answer_to flat [] (plain 8 0 8 8)) 16 0 0
    -- 16: an endpoint that differs, as written; an earlier one before a count
    ∷ is (answer_to flat two (plain 8 0 8 8 ++ plain 16 8 16 0)) 16 1 0
    ∷ is (answer_to flat two (plain 8 0 8 7)) 16 0 0
    -- 3 before 16, 16 before 5 and 9
    ∷ is (answer_to flat (8 ∷ []) []) 3 0 0
    ∷ is (answer_to flat (99 ∷ 0 ∷ 8 ∷ 8 ∷ []) (plain 8 0 8 8)) 16 0 0
    ∷ is (answer_to (1 ∷ 1 ∷ 17 ∷ 1 ∷ []) two (plain 8 0 8 8)) 16 1 0
    -- 5 and 6 at the entry as lent, not in row order
    ∷ is (answer_to flat (16 ∷ 0 ∷ 16 ∷ 8 ∷ 8 ∷ 8 ∷ 8 ∷ 8 ∷ []) (plain 16 0 16 8 ++ plain 8 8 8 8)) 6 1 0
    ∷ is (answer_to flat (33 ∷ 0 ∷ 16 ∷ 8 ∷ []) (plain 33 0 16 8)) 5 0 0
    -- 11 and 12 come of the first pass: the corridor starts with four regions and three pairs, though it ends with two and one
    ∷ is (rest_verdict (corridor_in 4 3)) 0 1 3
    ∷ is (rest_verdict (corridor_in 3 3)) 11 0 0
    ∷ is (rest_verdict (corridor_in 4 2)) 12 0 0
    -- At exit: the last pass's two regions, one span and its pair; zero where the first pass had four, three and three; beyond that, and in the output beyond
    -- the row, as it was.
    ∷ same_numbers (filled (rest_exit soiled_corridor 0))
    (1 ∷ 1 ∷ 1 ∷ 2 ∷ 9
    ∷ 1 ∷ 1 ∷ 0 ∷ 0 ∷ 0 ∷ 0 ∷ 5
    ∷ 0 ∷ 1 ∷ 2 ∷ 0 ∷ 0 ∷ 0 ∷ 0 ∷ 0 ∷ 0 ∷ 4
    ∷ 3 ∷ 1 ∷ 0 ∷ 0 ∷ 3
    ∷ 0 ∷ 24 ∷ 0 ∷ 24 ∷ 8 ∷ replicate 11 6)
    -- case J, and the ring
    ∷ keeps map_j 3 (2 ∷ 8 ∷ 8 ∷ 16 ∷ 8 ∷ 4 ∷ 16 ∷ 16 ∷ 24 ∷ 16 ∷ 3 ∷ 24 ∷ 8 ∷ 24 ∷ 16 ∷ [])
    ∷ keeps (map_in ring) 3
    (3 ∷ 16 ∷ 12 ∷ 16 ∷ 28 ∷ 2 ∷ 16 ∷ 12 ∷ 24 ∷ 12 ∷ 1 ∷ 16 ∷ 28 ∷ 24 ∷ 28 ∷ 6 ∷ 16 ∷ 48 ∷ 24 ∷ 48 ∷ [])
    ∷ []

pub rest_examples_lem : all (λ b. b) rest_examples ≡ true
unfolding rest_examples all
rest_examples_lem = refl
