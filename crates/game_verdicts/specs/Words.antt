-- The words of the contracts of the verdicts. In code regions count from 0. Definitions only; assumes nothing.
use Rattle.std.specs.Prelude.{ℕ, suc, ◌≤◌, ◌<◌, ◌≡◌, Bool, List, length}
use Rattle.definitions.specs.Scan.{gather}
use Rattle.game.specs.Game.{Game}
use Rattle.game.specs.Ranks.{serves_by, verdict_by}
use Rattle.game.specs.Graph.{max_game_regions, verdicts_room, place_at, numbers_of}
use Rattle.game_sets.specs.Words.{Plays}
use Rattle.game_search.specs.Words.{Sized, rank_at, at}

-- the verdicts of the first n places, by the ranks
unfoldable pub verdicts_by : Game → List ℕ → ℕ → List ℕ
unfolding gather verdict_by place_at
verdicts_by G ranks n = gather n (λ c. numbers_of (verdict_by G (rank_at ranks) (place_at G.regions c)))

-- a place of the graph
pub record AtPlace (regions r g : ℕ) : Type 0 where
  pub few : regions ≤ max_game_regions
  pub runner : r < regions
  pub guard : g < regions

-- s says whether going to region d + 1 serves the one to move, in every game of these steps
pub record Served (near ranks : List ℕ) (r g : ℕ) (t : Bool) (d : ℕ) (s : Bool) : Type 0 where
  pub is : (G : Game) (regions goal : ℕ) → Plays near regions goal G → s ≡ serves_by G (rank_at ranks) (at r g t) (suc d)

pub record Fits (regions goal : ℕ) (verdicts : List ℕ) : Type 0 where
  pub sized : Sized regions goal
  pub room : verdicts_room ≤ length verdicts
