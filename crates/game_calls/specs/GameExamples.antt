-- The kept graph of a map, computed; the lists at exit, where those of the first partition would differ; and answers in their order. All stand in one list of
-- tests, the shortest first, so that a wrong definition is refused at once. Assumes nothing.
use Rattle.std.specs.Prelude.{ℕ, ◌≡◌, refl, Bool, true, ◌&&◌, List, [], ◌∷◌, ◌++◌, map, length, replicate, eqb}
use Rattle.definitions.specs.Scan.{all, gather, concat_map}
use Rattle.definitions.specs.Context.{context_of}
use Rattle.definitions.specs.Verdict.{Lent, map_in, pair_rows_of}
use Rattle.definitions.specs.Cases.{region_of_counts, same_numbers}
use Rattle.rest_definitions.specs.RestExamples.{plain, ramp}
use Rattle.game.specs.Game.{Place}
use Rattle.game.specs.Ranks.{verdict_by, rank_in, solved}
use Rattle.game.specs.Graph.{edges_in, verdicts_room, numbers_of}
use Rattle.game_calls.specs.KeptGraph.{kept_numbers, graph_map, kept_game}
use Rattle.game_calls.specs.GameVerdict.{GameAnswer, game_verdict}
use Rattle.game_calls.specs.GameExit.{game_exit}

-- ---- how the inputs are written

-- a pass over these lists, with lists to fill of these lengths, none of it zero
unfoldable pub lent : ℕ → ℕ → List ℕ → List ℕ → List ℕ → ℕ → ℕ → Lent
unfolding region_of_counts
lent pass w cells spans boundaries records rows =
    record {
      pass = pass;
      width = w;
      height = 1;
      cells = cells;
      spans = spans;
      boundaries = boundaries;
      anchors = [];
      labels = replicate (length cells) 9;
      masks = replicate (length cells) 8;
      queue = replicate (length cells) 7;
      tallies = replicate 7 5;
      pairs = replicate rows 4;
      records = replicate records (region_of_counts 3 2);
      output = replicate 16 6;
    }

abbrev flat : List ℕ
flat = 1 ∷ 1 ∷ 1 ∷ 1 ∷ []

-- ---- four cells in a row, cut at 24, 16 and 8, the first a ramp. Pass 1 removes the mouth at 16, so that cells 2 and 3 are one region of the kept graph.

abbrev ends : List ℕ
ends = 24 ∷ 8 ∷ 24 ∷ 0 ∷ 16 ∷ 0 ∷ 16 ∷ 8 ∷ 8 ∷ 0 ∷ 8 ∷ 8 ∷ []

unfoldable pub corridor : Lent
unfolding lent
corridor = lent 1 4 flat ends (ramp 1 7 24 8 24 0 ++ plain 16 0 16 8 ++ plain 8 0 8 8) 5 10

abbrev place : ℕ → ℕ → Bool → Place
place r g t = record { runner = r; guard = g; runners_turn = t }

-- the verdicts of the corridor's game with goal 3, of runner, guard and whether the runner is to move
unfoldable pub corridor_played : List Place → List ℕ
unfolding kept_game map_in corridor solved verdict_by rank_in
corridor_played places =
    let G = kept_game 1 (map_in corridor) 3 in
    let t = solved G in
    concat_map (λ x. numbers_of (verdict_by G (rank_in G t) x)) places

-- labels, masks, queue, tallies, pairs, cells of each record, and output, one after the other
abbrev filled : Lent → List ℕ
filled L = L.labels ++ L.masks ++ L.queue ++ L.tallies ++ L.pairs ++ map (λ r. r.cells) L.records ++ L.output

-- ---- answers

abbrev is : GameAnswer → ℕ → ℕ → ℕ → Bool
is a number value regions = eqb a.number number && eqb a.value value && eqb a.regions regions

-- the corridor's cells with other lists
unfoldable pub answer_to : ℕ → List ℕ → List ℕ → List ℕ → ℕ → ℕ → GameAnswer
unfolding game_verdict lent
answer_to pass cells spans boundaries goal verdicts = game_verdict (lent pass 4 cells spans boundaries 4 9) goal verdicts

-- the corridor, lent this many records and numbers of pairs
unfoldable pub corridor_in : ℕ → ℕ → GameAnswer
unfolding game_verdict lent
corridor_in records rows = game_verdict (lent 1 4 flat ends (ramp 1 7 24 8 24 0 ++ plain 16 0 16 8 ++ plain 8 0 8 8) records rows) 3 verdicts_room

-- so many walkable cells, each apart
unfoldable pub islands : ℕ → GameAnswer
unfolding game_verdict lent gather
islands n =
    let cells = gather {A = ℕ} n (λ i. 1 ∷ 0 ∷ []) in
    game_verdict (lent 1 (length cells) cells [] [] 40 0) 41 verdicts_room

unfoldable pub game_examples : List Bool
unfolding answer_to corridor_in islands game_verdict corridor kept_numbers map_in edges_in pair_rows_of context_of graph_map concat_map corridor_played game_exit region_of_counts
game_examples =
    -- 4 before 16, 16 before 5
    is (answer_to 4 flat [] (plain 8 0 8 8) 1 verdicts_room) 4 0 0
    ∷ is (answer_to 1 flat [] (plain 8 0 8 8) 1 verdicts_room) 16 0 0
    ∷ is (answer_to 1 flat (99 ∷ 0 ∷ 8 ∷ 8 ∷ []) (plain 8 0 8 8) 1 verdicts_room) 16 0 0
    ∷ is (answer_to 1 flat (8 ∷ 0 ∷ 8 ∷ 8 ∷ []) (plain 8 8 8 0) 1 verdicts_room) 16 0 0
    ∷ is (answer_to 1 flat (99 ∷ 0 ∷ 8 ∷ 8 ∷ []) (plain 99 0 8 8) 1 verdicts_room) 5 0 0
    -- 9 before 10, which asks for room for the largest graph; 10 before 24
    ∷ is (answer_to 1 (1 ∷ 1 ∷ 17 ∷ 1 ∷ []) [] [] 1 0) 9 2 0
    ∷ is (answer_to 1 flat [] [] 9 6143) 10 0 0
    ∷ is (answer_to 1 flat [] [] 9 6144) 24 0 0
    -- what pass 1 keeps, and the pairs of these boundaries in list order: 24 comes before 8
    ∷ same_numbers (kept_numbers 1 (map_in corridor)) (0 ∷ 2 ∷ [])
    ∷ same_numbers (edges_in (pair_rows_of (context_of (graph_map 1 (map_in corridor)))) 2) (2 ∷ 3 ∷ 1 ∷ 2 ∷ [])
    -- the runner beside the goal takes it; behind the guard he does not get past
    ∷ same_numbers (corridor_played (place 2 1 true ∷ place 1 2 true ∷ [])) (1 ∷ 1 ∷ 3 ∷ 2 ∷ 0 ∷ 0 ∷ [])
    -- 23 and 24 leave the second partition, 16 leaves every list
    ∷ same_numbers ((game_exit corridor 23).labels ++ (game_exit corridor 24).labels ++ (game_exit corridor 16).labels) (1 ∷ 2 ∷ 2 ∷ 3 ∷ 1 ∷ 2 ∷ 2 ∷ 3 ∷ 9 ∷ 9 ∷ 9 ∷ 9 ∷ [])
    -- At exit: the second partition's three regions, two spans and their pairs; zero where the first had four, three and three; beyond that, and in the output
    -- beyond the rows, as it was.
    ∷ same_numbers (filled (game_exit corridor 0))
    (1 ∷ 2 ∷ 2 ∷ 3
    ∷ 0 ∷ 0 ∷ 0 ∷ 0
    ∷ 0 ∷ 0 ∷ 0 ∷ 0
    ∷ 1 ∷ 1 ∷ 1 ∷ 1 ∷ 0 ∷ 0 ∷ 5
    ∷ 0 ∷ 2 ∷ 3 ∷ 1 ∷ 1 ∷ 2 ∷ 0 ∷ 0 ∷ 0 ∷ 4
    ∷ 1 ∷ 2 ∷ 1 ∷ 0 ∷ 3
    ∷ 2 ∷ 8 ∷ 0 ∷ 8 ∷ 8 ∷ 0 ∷ 24 ∷ 0 ∷ 24 ∷ 8 ∷ replicate 6 6)
    -- the second partition has three regions; 24 for a goal of the first alone
    ∷ is (game_verdict corridor 3 verdicts_room) 0 2 3
    ∷ is (game_verdict corridor 4 verdicts_room) 24 0 0
    ∷ is (game_verdict corridor 0 verdicts_room) 24 0 0
    -- 11 and 12 come of the first partition, of four regions and three pairs
    ∷ is (corridor_in 4 9) 0 2 3
    ∷ is (corridor_in 3 9) 11 0 0
    ∷ is (corridor_in 4 8) 12 0 0
    -- 23 before 24
    ∷ is (islands 33) 23 0 0
    ∷ is (islands 32) 24 0 0
    ∷ []

pub game_examples_lem : all (λ b. b) game_examples ≡ true
unfolding game_examples all
game_examples_lem = refl
