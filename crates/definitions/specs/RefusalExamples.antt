-- The table of refusals, computed: each number with its place, both sides of its limits, the order of the checks, and the lists at exit of a success,
-- of 11 and of 12.
use Rattle.std.specs.Prelude.{ℕ, ◌-◌, ◌^◌, ◌≡◌, refl, Bool, true, not, ◌&&◌, List, [], ◌∷◌, map, replicate, eqb}
use Rattle.definitions.specs.Limits.{is_side}
use Rattle.definitions.specs.Scan.{all}
use Rattle.definitions.specs.Grid.{Boundary}
use Rattle.definitions.specs.RegionRecord.{Region, empty_region}
use Rattle.definitions.specs.Refusals.{is_whole, width_fits, boundary_fits}
use Rattle.definitions.specs.Verdict.{Lent, Answer, verdict, partition_verdict}
use Rattle.definitions.specs.AtExit.{call_exit}
use Rattle.definitions.specs.Cases.{width8, segment}

-- ---- a map of two cells that its one boundary divides, lent with lists one entry longer than needed

unfoldable pub lent_two : ℕ → ℕ → ℕ → List ℕ → List ℕ → List ℕ → List ℕ → List ℕ → List ℕ → List Region → Lent
lent_two pass w h cells spans boundaries anchors labels pairs records =
    record {
      pass = pass;
      width = w;
      height = h;
      cells = cells;
      spans = spans;
      boundaries = boundaries;
      anchors = anchors;
      labels = labels;
      masks = 7 ∷ 7 ∷ 7 ∷ [];
      queue = 8 ∷ 8 ∷ 8 ∷ [];
      tallies = 5 ∷ 5 ∷ 5 ∷ [];
      pairs = pairs;
      records = records;
      output = 6 ∷ 6 ∷ 6 ∷ 6 ∷ 6 ∷ 6 ∷ [];
    }

abbrev pub cells_two : List ℕ
cells_two = 1 ∷ 1 ∷ []

abbrev pub span_two : List ℕ
span_two = 8 ∷ 8 ∷ 8 ∷ 0 ∷ []

abbrev pub boundary_two : List ℕ
boundary_two = 8 ∷ 8 ∷ 8 ∷ 0 ∷ width8 ∷ 0 ∷ 0 ∷ 0 ∷ 0 ∷ []

abbrev pub labels_two : List ℕ
labels_two = 9 ∷ 9 ∷ 9 ∷ []

abbrev pub pairs_two : List ℕ
pairs_two = 4 ∷ 4 ∷ 4 ∷ 4 ∷ []

unfoldable pub records_two : ℕ → List Region
unfolding empty_region
records_two n = replicate n empty_region

-- with its own lists but for these: pass, sides, cells, spans, boundaries, anchors
unfoldable pub answer_to : ℕ → ℕ → ℕ → List ℕ → List ℕ → List ℕ → List ℕ → Answer
unfolding verdict lent_two records_two
answer_to pass w h cells spans boundaries anchors = verdict (lent_two pass w h cells spans boundaries anchors labels_two pairs_two (records_two 3))

-- with its own map, and these labels, pairs and records lent
unfoldable pub answer_in : List ℕ → List ℕ → ℕ → Answer
unfolding verdict lent_two records_two
answer_in labels pairs records = verdict (lent_two 3 2 1 cells_two span_two boundary_two [] labels pairs (records_two records))

abbrev pub is : Answer → ℕ → ℕ → Bool
is a number value = eqb a.number number && eqb a.value value

unfoldable pub refusal_examples : List Bool
unfolding answer_to answer_in
refusal_examples =
    is (answer_to 3 2 1 cells_two span_two boundary_two (1 ∷ 0 ∷ [])) 0 1
    -- 1: the sides; before 2 and all others
    ∷ is (answer_to 9 0 1 cells_two span_two boundary_two []) 1 0
    ∷ is (answer_to 3 2 1025 cells_two span_two boundary_two []) 1 0
    -- 2: cells missing or too many
    ∷ is (answer_to 3 2 1 (1 ∷ []) span_two boundary_two []) 2 0
    ∷ is (answer_to 3 2 1 (1 ∷ 1 ∷ 1 ∷ []) (8 ∷ []) boundary_two []) 2 0
    -- 3: an unfinished entry; before 4
    ∷ is (answer_to 0 2 1 cells_two (8 ∷ 8 ∷ 8 ∷ 0 ∷ 1 ∷ []) boundary_two []) 3 0
    ∷ is (answer_to 3 2 1 cells_two span_two (8 ∷ []) []) 3 0
    ∷ is (answer_to 3 2 1 cells_two span_two boundary_two (0 ∷ [])) 3 0
    -- 4: the pass; before 5
    ∷ is (answer_to 0 2 1 cells_two (17 ∷ 8 ∷ 8 ∷ 0 ∷ []) boundary_two []) 4 0
    ∷ is (answer_to 4 2 1 cells_two span_two boundary_two []) 4 0
    -- 5 and 6: the first faulty span, 5 first within a span; endpoints on the right and lower edge are on the map
    ∷ is (answer_to 3 2 1 cells_two (16 ∷ 8 ∷ 8 ∷ 0 ∷ []) boundary_two []) 0 1
    ∷ is (answer_to 3 2 1 cells_two (17 ∷ 8 ∷ 8 ∷ 0 ∷ []) boundary_two []) 5 0
    ∷ is (answer_to 3 2 1 cells_two (8 ∷ 8 ∷ 8 ∷ 0 ∷ 8 ∷ 0 ∷ 8 ∷ 9 ∷ []) boundary_two []) 5 1
    ∷ is (answer_to 3 2 1 cells_two (8 ∷ 8 ∷ 8 ∷ 8 ∷ 17 ∷ 0 ∷ 8 ∷ 8 ∷ []) boundary_two []) 6 0
    ∷ is (answer_to 3 2 1 cells_two (8 ∷ 9 ∷ 8 ∷ 9 ∷ []) boundary_two []) 5 0
    -- 7: the first faulty boundary; before 8
    ∷ is (answer_to 3 2 1 cells_two span_two (8 ∷ 8 ∷ 8 ∷ 9 ∷ width8 ∷ 0 ∷ 0 ∷ 0 ∷ 0 ∷ []) (2 ∷ 0 ∷ [])) 7 0
    -- 8: the first anchor outside the grid; before 9
    ∷ is (answer_to 3 2 1 (17 ∷ 1 ∷ []) span_two boundary_two (1 ∷ 0 ∷ 2 ∷ 0 ∷ [])) 8 1
    ∷ is (answer_to 3 2 1 cells_two span_two boundary_two (0 ∷ 1 ∷ [])) 8 0
    -- 9: the first walkable cell of elevation 4; one that is blocked, or of elevation 3, is no fault
    ∷ is (answer_to 3 2 1 (1 ∷ 17 ∷ []) span_two boundary_two []) 9 1
    ∷ is (answer_to 3 2 1 (13 ∷ 16 ∷ []) span_two boundary_two []) 0 1
    -- 10: a list too short; before 11
    ∷ is (answer_in (9 ∷ []) pairs_two 0) 10 0
    -- 11: one record for two regions; before 12
    ∷ is (answer_in labels_two [] 1) 11 0
    -- 12: no whole row for one pair
    ∷ is (answer_in labels_two (4 ∷ 4 ∷ []) 2) 12 0
    ∷ is (answer_in labels_two (4 ∷ 4 ∷ 4 ∷ []) 2) 0 1
    ∷ []

pub refusal_examples_lem : all (λ b. b) refusal_examples ≡ true
unfolding all refusal_examples
refusal_examples_lem = refl

-- partitioning alone skips 4, 7, 8 and 9, and counts regions
pub partition_example : partition_verdict (lent_two 0 2 1 (1 ∷ 17 ∷ []) span_two [] [] labels_two pairs_two []) ≡ record { number = 0; value = 2 }
unfolding partition_verdict lent_two
partition_example = refl

-- ---- limits that would make large maps

unfoldable pub boundary_with : ℕ → ℕ → ℕ → ℕ → ℕ → Boundary
boundary_with bits kind ramp_id lower upper = record { endpoints = segment 0 0 0 0; width_bits = bits; kind = kind; ramp_id = ramp_id; lower = lower; upper = upper }

unfoldable pub limit_examples : List Bool
unfolding width_fits boundary_fits boundary_with
limit_examples =
    is_side 1024
    ∷ not (is_side 1025)
    ∷ is_whole 4 (replicate 1024 0)
    ∷ not (is_whole 4 (replicate 1028 0))
    -- widths: +0 and 65,536 fit; the next above, an infinity, a NaN and -0 do not
    ∷ width_fits 0
    ∷ width_fits 0x40F0000000000000
    ∷ not (width_fits 0x40F0000000000001)
    ∷ not (width_fits 0x7FF0000000000000)
    ∷ not (width_fits 0x7FF8000000000000)
    ∷ not (width_fits 0x8000000000000000)
    -- kind, ramp id, elevations; equal endpoints are no fault of a boundary
    ∷ boundary_fits 1 1 (boundary_with width8 2 (2 ^ 32 - 1) 7 7)
    ∷ not (boundary_fits 1 1 (boundary_with width8 3 0 0 0))
    ∷ not (boundary_fits 1 1 (boundary_with width8 1 (2 ^ 32) 0 0))
    ∷ not (boundary_fits 1 1 (boundary_with width8 1 0 8 0))
    ∷ not (boundary_fits 1 1 (boundary_with width8 1 0 0 8))
    ∷ not (boundary_fits 1 1 (boundary_with width8 0 0 0 1))
    ∷ []

pub limit_examples_lem : all (λ b. b) limit_examples ≡ true
unfolding all limit_examples
limit_examples_lem = refl

-- ---- the lists at exit

-- labels, masks, queue, tallies, pairs, output
abbrev pub numbers_of : Lent → List (List ℕ)
numbers_of L = L.labels ∷ L.masks ∷ L.queue ∷ L.tallies ∷ L.pairs ∷ L.output ∷ []

unfoldable pub exit_after : ℕ → Lent
unfolding call_exit lent_two records_two
exit_after number = call_exit (lent_two 3 2 1 cells_two span_two boundary_two [] labels_two pairs_two (records_two 3)) number

pub success-lists : numbers_of (exit_after 0) ≡ (1 ∷ 2 ∷ 9 ∷ []) ∷ (0 ∷ 0 ∷ 7 ∷ []) ∷ (0 ∷ 0 ∷ 8 ∷ []) ∷ (1 ∷ 1 ∷ 5 ∷ []) ∷ (0 ∷ 1 ∷ 2 ∷ 4 ∷ []) ∷ (0 ∷ 8 ∷ 0 ∷ 8 ∷ 8 ∷ 6 ∷ []) ∷ []
unfolding exit_after
success-lists = refl

pub success-cells : map (λ (r : Region). r.cells) (exit_after 0).records ≡ 1 ∷ 1 ∷ 0 ∷ []
unfolding exit_after
success-cells = refl

pub eleven-lists : numbers_of (exit_after 11) ≡ (1 ∷ 2 ∷ 9 ∷ []) ∷ (0 ∷ 0 ∷ 7 ∷ []) ∷ (0 ∷ 0 ∷ 8 ∷ []) ∷ (0 ∷ 0 ∷ 5 ∷ []) ∷ (4 ∷ 4 ∷ 4 ∷ 4 ∷ []) ∷ (6 ∷ 6 ∷ 6 ∷ 6 ∷ 6 ∷ 6 ∷ []) ∷ []
unfolding exit_after
eleven-lists = refl

pub twelve-lists : numbers_of (exit_after 12) ≡ (1 ∷ 2 ∷ 9 ∷ []) ∷ (0 ∷ 0 ∷ 7 ∷ []) ∷ (0 ∷ 0 ∷ 8 ∷ []) ∷ (1 ∷ 1 ∷ 5 ∷ []) ∷ (0 ∷ 0 ∷ 0 ∷ 0 ∷ []) ∷ (6 ∷ 6 ∷ 6 ∷ 6 ∷ 6 ∷ 6 ∷ []) ∷ []
unfolding exit_after
twelve-lists = refl

pub ten-lists : numbers_of (exit_after 10) ≡ (9 ∷ 9 ∷ 9 ∷ []) ∷ (7 ∷ 7 ∷ 7 ∷ []) ∷ (8 ∷ 8 ∷ 8 ∷ []) ∷ (5 ∷ 5 ∷ 5 ∷ []) ∷ (4 ∷ 4 ∷ 4 ∷ 4 ∷ []) ∷ (6 ∷ 6 ∷ 6 ∷ 6 ∷ 6 ∷ 6 ∷ []) ∷ []
unfolding exit_after
ten-lists = refl
