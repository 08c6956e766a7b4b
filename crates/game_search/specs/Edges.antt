-- A graph by its edges, one by one, and by lists that end in an edge each. Definitions only; assumes nothing.
use Rattle.std.specs.Prelude.{ℕ, ◌-◌, ◌&&◌, List, [], length, get_or}
use Rattle.definitions.specs.Scan.{any_below_lem}
use Rattle.game.specs.Game.{Game, is_region}
use Rattle.game.specs.Graph.{joins}

-- n edges, of which edge k joins p k and q k
unfoldable pub graph_by : ℕ → ℕ → (ℕ → ℕ) → (ℕ → ℕ) → ℕ → Game
unfolding any_below_lem
graph_by regions n p q goal =
    record { regions = regions; edge = λ a b. is_region regions a && is_region regions b && any_below_lem n (λ k. joins (p k) (q k) a b); goal = goal }

-- number j of list k
abbrev pub number_in : List (List ℕ) → ℕ → ℕ → ℕ
number_in lists j k = get_or (get_or lists k []) j 0

-- the graph whose edges are the last two of the n numbers of each list
abbrev pub last_two : ℕ → ℕ → List (List ℕ) → ℕ → Game
last_two n regions lists goal = graph_by regions (length lists) (number_in lists (n - 2)) (number_in lists (n - 1)) goal
