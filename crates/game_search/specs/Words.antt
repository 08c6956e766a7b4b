-- The words of the contracts of the search: a sweep over rows of sets, ranks, and what they say of a game. In code regions count from 0. Definitions only;
-- assumes nothing.
use Rattle.std.specs.Prelude.{ℕ, suc, ◌+◌, ◌-◌, ◌*◌, ◌/◌, ◌%◌, ◌≤◌, ◌<◌, ◌≡◌, Bool, not, ◌&&◌, cond, List, get_or, eqb}
use Rattle.definitions.specs.RegionRecord.{has_bit}
use Rattle.game.specs.Game.{Game, Place, Inside}
use Rattle.game.specs.RankLaws.{rank_of}
use Rattle.game.specs.Graph.{max_game_regions}
use Rattle.game_sets.specs.Words.{bit_at, runner_bit, guard_bit}

-- what every function below the operation asks for
pub record Sized (regions goal : ℕ) : Type 0 where
  pub few : regions ≤ max_game_regions
  pub inside : goal < regions

-- ---- a sweep

pub record Swept (near : List ℕ) (regions goal : ℕ) (runner guard nextRunner nextGuard : List ℕ) : Type 0 where
  pub runners : (g j : ℕ) → g < regions → j < regions → bit_at nextRunner g j ≡ runner_bit near goal (get_or guard g 0) g j
  pub guards : (g j : ℕ) → g < regions → j < regions → bit_at nextGuard g j ≡ guard_bit near regions goal runner g j

-- ---- ranks

-- where the rank of a place stands: runner on r + 1, guard on g + 1, the runner to move or not
abbrev pub rank_place : ℕ → ℕ → Bool → ℕ
rank_place r g t = 64 * r + 2 * g + cond t 0 1

abbrev pub rank_at : List ℕ → Place → ℕ
rank_at ranks x = get_or ranks (rank_place (x.runner - 1) (x.guard - 1) x.runners_turn) 0

-- the set in which the place of rank i is found
abbrev pub set_for : List ℕ → List ℕ → ℕ → ℕ
set_for runner guard i = cond (eqb (i % 2) 0) (get_or runner (i % 64 / 2) 0) (get_or guard (i % 64 / 2) 0)

-- region j + 1 is in the new set and not in the old one
abbrev pub is_new : ℕ → ℕ → ℕ → Bool
is_new old new j = has_bit new j && not (has_bit old j)

-- the place of rank i is in its new set and not in its old one
abbrev pub is_found_now : List ℕ → List ℕ → List ℕ → List ℕ → ℕ → Bool
is_found_now runner guard runners guards i = is_new (set_for runner guard i) (set_for runners guards i) (i / 64)

-- such a place gets this rank
abbrev pub ranked_by : List ℕ → List ℕ → List ℕ → List ℕ → ℕ → List ℕ → ℕ → ℕ
ranked_by runner guard runners guards rank ranks i = cond (is_found_now runner guard runners guards i) rank (get_or ranks i 0)

-- runner on r + 1, guard on g + 1
abbrev pub at : ℕ → ℕ → Bool → Place
at r g t = record { runner = suc r; guard = suc g; runners_turn = t }

-- the ranks are those of the game
abbrev pub Ranked : Game → List ℕ → Type 0
Ranked G ranks = (x : Place) → Inside G x → rank_at ranks x ≡ rank_of G x
