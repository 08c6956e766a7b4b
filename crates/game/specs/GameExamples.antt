-- Computed games: a path, a cycle, a goal out of reach; and computed answers.
use Rattle.std.specs.Prelude.{ℕ, ◌≡◌, refl, Bool, true, false, List, [], ◌∷◌, map}
use Rattle.definitions.specs.Verdict.{Answer}
use Rattle.game.specs.Game.{Game, Place}
use Rattle.game.specs.Play.{Verdict}
use Rattle.game.specs.Ranks.{verdict_by, rank_in, solved}
use Rattle.game.specs.Graph.{graph_of, place_at, solve_answer}

-- runner, guard, who is to move
abbrev place : ℕ → ℕ → Bool → Place
place r g t = record { runner = r; guard = g; runners_turn = t }

abbrev runner_in : ℕ → ℕ → Verdict
runner_in n d = record { runners_win = true; moves = n; region = d }

abbrev guard_by : ℕ → Verdict
guard_by d = record { runners_win = false; moves = 0; region = d }

abbrev ask : Game → List Place → List Verdict
ask G xs =
    let t = solved G in
    map (verdict_by G (rank_in G t)) xs

-- ---- the path 1 - 2 - 3, goal 3

abbrev path3 : Game
path3 = graph_of 3 (1 ∷ 2 ∷ 2 ∷ 3 ∷ []) 3

pub on-a-path :
    ask path3
    (place 1 2 true  -- the guard stands between: he waits, and play never ends
    ∷ place 1 2 false  -- region 1 captures
    ∷ place 2 1 true  -- the goal is next
    ∷ place 2 1 false  -- to stay would lose
    ∷ place 1 1 true  -- captured at the start
    ∷ place 3 3 true  -- on the goal, and captured: capture is judged first
    ∷ place 3 1 false  -- uncaught on the goal at the start
    ∷ place 1 3 true
    ∷ [])
    ≡ guard_by 0 ∷ guard_by 1 ∷ runner_in 1 3 ∷ guard_by 2 ∷ guard_by 0 ∷ guard_by 0 ∷ runner_in 0 0 ∷ guard_by 0 ∷ []
unfolding solved verdict_by rank_in graph_of
on-a-path = refl

-- ---- the cycle 1 - 2 - 3 - 4 - 5 - 1, goal 3

abbrev cycle5 : Game
cycle5 = graph_of 5 (1 ∷ 2 ∷ 2 ∷ 3 ∷ 3 ∷ 4 ∷ 4 ∷ 5 ∷ 5 ∷ 1 ∷ []) 3

pub on-a-cycle :
    ask cycle5
    (place 1 5 true  -- by 2 to 3, whatever the guard does: three moves of both
    ∷ place 1 5 false  -- region 1 captures; 4 would hold too
    ∷ place 1 4 true  -- the guard gets back to the goal
    ∷ place 1 4 false
    ∷ place 2 4 true  -- a goal beside the guard: it is taken before he moves
    ∷ place 2 4 false  -- he steps on it first
    ∷ place 2 3 false  -- he need not leave it; region 2 captures
    ∷ place 1 3 false  -- staying on the goal serves, but 2, which stands in the way, is less
    ∷ [])
    ≡ runner_in 3 2 ∷ guard_by 1 ∷ guard_by 0 ∷ guard_by 3 ∷ runner_in 1 3 ∷ guard_by 3 ∷ guard_by 2 ∷ guard_by 2 ∷ []
unfolding solved verdict_by rank_in graph_of
on-a-cycle = refl

-- ---- a goal that no edge reaches, since pairs that name 0 or a region above 3 are none: the guard wins by not losing, and any move serves

abbrev apart : Game
apart = graph_of 3 (1 ∷ 2 ∷ 0 ∷ 3 ∷ 3 ∷ 4 ∷ []) 3

pub on_two_parts : ask apart (place 1 2 true ∷ place 2 1 false ∷ place 1 3 false ∷ place 3 1 true ∷ []) ≡ guard_by 0 ∷ guard_by 1 ∷ guard_by 3 ∷ runner_in 0 0 ∷ []
unfolding solved verdict_by rank_in graph_of
on_two_parts = refl

-- ---- answers

abbrev answer : ℕ → ℕ → Answer
answer number value = record { number = number; value = value }

-- an unfinished pair goes before all else, then room, then the regions, then the goal
pub in_order :
    solve_answer 33 (1 ∷ []) 34 6143 ∷ solve_answer 33 [] 34 6143 ∷ solve_answer 33 [] 34 6144 ∷ solve_answer 32 [] 33 6144 ∷ solve_answer 32 [] 0 6144 ∷ solve_answer 32 [] 32 6144 ∷ []
    ≡ answer 3 0 ∷ answer 10 0 ∷ answer 23 0 ∷ answer 24 0 ∷ answer 24 0 ∷ answer 0 2048 ∷ []
unfolding solve_answer
in_order = refl

-- no region, no goal
pub empty_graph : solve_answer 0 [] 0 6144 ∷ solve_answer 0 [] 1 6144 ∷ [] ≡ answer 24 0 ∷ answer 24 0 ∷ []
unfolding solve_answer
empty_graph = refl

-- the places of two regions, in order
pub places-in_order : map (place_at 2) (0 ∷ 1 ∷ 2 ∷ 5 ∷ 7 ∷ []) ≡ place 1 1 true ∷ place 1 1 false ∷ place 1 2 true ∷ place 2 1 false ∷ place 2 2 false ∷ []
unfolding place_at
places-in_order = refl
