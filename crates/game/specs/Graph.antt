-- The game over a graph given as plain lists (document 02, request 14): the graph, the answer of the operation that solves it, and the lent list of verdicts at exit.
-- Quotations are of the request. Definitions only; assumes nothing.
use Rattle.std.specs.Prelude.{ℕ, suc, ◌+◌, ◌*◌, ◌/◌, ◌%◌, ◌≡◌, Bool, ◌&&◌, ◌||◌, cond, List, [], ◌∷◌, length, get_or, eqb, leb, Option}
use Rattle.definitions.specs.Limits.{numbers_per_pair}
use Rattle.definitions.specs.Scan.{any_below_lem, gather}
use Rattle.definitions.specs.Lists.{overwrite}
use Rattle.definitions.specs.Refusals.{unless}
use Rattle.definitions.specs.Verdict.{Answer, refusal, first_refusal}
use Rattle.game.specs.Game.{Game, Place, is_region}
use Rattle.game.specs.Play.{Verdict}
use Rattle.game.specs.Search.{verdict_of}

-- ---- the graph

-- a pair is two regions
abbrev pub numbers_per_edge : ℕ
numbers_per_edge = 2

-- the pair of p and q joins a and b, in either order
abbrev pub joins : ℕ → ℕ → ℕ → ℕ → Bool
joins p q a b = (eqb p a && eqb q b) || (eqb p b && eqb q a)

-- one of the first n pairs joins a and b
unfoldable pub any_joins : List ℕ → ℕ → ℕ → ℕ → Bool
unfolding any_below_lem
any_joins pairs n a b = any_below_lem n (λ k. joins (get_or pairs (numbers_per_edge * k) 0) (get_or pairs (numbers_per_edge * k + 1) 0) a b)

-- A pair that names 0 or a number above the regions is no edge.
unfoldable pub graph_of : ℕ → List ℕ → ℕ → Game
unfolding any_joins
graph_of regions pairs goal =
    record {
      regions = regions;
      edge = λ a b. is_region regions a && is_region regions b && any_joins pairs (length pairs / numbers_per_edge) a b;
      goal = goal;
    }

-- The edges of a map's graph: "an edge for each pair of a kept boundary". A row of pairs is a span, the smaller region and the larger; these are the two regions of
-- each of the first n rows, one pair behind the other.
unfoldable pub edges_in : List ℕ → ℕ → List ℕ
unfolding gather
edges_in rows n = gather n (λ k. get_or rows (numbers_per_pair * k + 1) 0 ∷ get_or rows (numbers_per_pair * k + 2) 0 ∷ [])

-- ---- the answer

-- "up to 32 regions"
abbrev pub max_game_regions : ℕ
max_game_regions = 32

abbrev pub numbers_per_verdict : ℕ
numbers_per_verdict = 3

-- both and either to move
abbrev pub place_count : ℕ → ℕ
place_count regions = 2 * (regions * regions)

-- room for the verdicts of the largest graph
abbrev pub verdicts_room : ℕ
verdicts_room = numbers_per_verdict * place_count max_game_regions

-- 23: "more than 32 regions"
abbrev pub graph_fault : ℕ → Option ℕ
graph_fault regions = unless (leb regions max_game_regions)

-- 24: "a goal outside the graph"
abbrev pub goal_fault : ℕ → ℕ → Option ℕ
goal_fault regions goal = unless (is_region regions goal)

-- number 0 and the count of verdicts, or a refusal's number and place 0; `room` is the length of the list of verdicts
unfoldable pub solve_answer : ℕ → List ℕ → ℕ → ℕ → Answer
solve_answer regions pairs goal room =
    first_refusal
    (refusal 3 (unless (eqb (length pairs % numbers_per_edge) 0))
    ∷ refusal 10 (unless (leb verdicts_room room))
    ∷ refusal 23 (graph_fault regions)
    ∷ refusal 24 (goal_fault regions goal)
    ∷ [])
    (place_count regions)

-- ---- the verdicts

-- The place of number c: by the runner's region, the guard's, and who is to move, the runner first.
unfoldable pub place_at : ℕ → ℕ → Place
place_at regions c = record { runner = suc (c / 2 / regions); guard = suc (c / 2 % regions); runners_turn = eqb (c % 2) 0 }

-- the winner, 1 for the runner and 2 for the guard; the moves; the region
abbrev pub numbers_of : Verdict → List ℕ
numbers_of v = cond v.runners_win 1 2 ∷ v.moves ∷ v.region ∷ []

-- of the first n places
unfoldable pub verdict_numbers : Game → ℕ → List ℕ
unfolding gather verdict_of place_at
verdict_numbers G n = gather n (λ c. numbers_of (verdict_of G (place_at G.regions c)))

-- by the answer's number: the verdicts, and behind them what was there; as it was where the call is refused
unfoldable pub verdicts_at_exit : Game → List ℕ → ℕ → List ℕ
unfolding verdict_numbers
verdicts_at_exit G old number = cond (eqb number 0) (overwrite (verdict_numbers G (place_count G.regions)) old) old

-- The contract of the operation: regions, pairs and goal as they were told, the verdicts as they were lent, the answer a, and the verdicts v at exit.
pub record Solves (regions : ℕ) (pairs : List ℕ) (goal : ℕ) (old : List ℕ) (a : Answer) (v : List ℕ) : Type 0 where
  pub answer : a ≡ solve_answer regions pairs goal (length old)
  pub at_exit : v ≡ verdicts_at_exit (graph_of regions pairs goal) old a.number
