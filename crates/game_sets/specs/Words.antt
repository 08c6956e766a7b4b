-- The words of the contracts of sets, steps and the rows of a sweep. In code regions count from 0. Definitions only; assumes nothing.
use Rattle.std.specs.Prelude.{ℕ, suc, ◌<◌, ◌≡◌, Bool, not, ◌&&◌, ◌||◌, List, get_or, eqb}
use Rattle.definitions.specs.Scan.{any_below_lem, all_below}
use Rattle.definitions.specs.RegionRecord.{has_bit}
use Rattle.game.specs.Game.{Game, is_step}
use Rattle.game.specs.Graph.{max_game_regions}

-- bit j of number i of a list
abbrev pub bit_at : List ℕ → ℕ → ℕ → Bool
bit_at l i j = has_bit (get_or l i 0) j

-- the two have a region in common
unfoldable pub do_meet : ℕ → ℕ → Bool
unfolding any_below_lem
do_meet a b = any_below_lem max_game_regions (λ d. has_bit a d && has_bit b d)

-- bit i of each number is region i + 1 if a step leads there
abbrev pub Near : Game → List ℕ → Type 0
Near G near = (i j : ℕ) → i < max_game_regions → j < max_game_regions → bit_at near i j ≡ is_step G (suc i) (suc j)

-- G is the game of these steps, regions and goal
pub record Plays (near : List ℕ) (regions goal : ℕ) (G : Game) : Type 0 where
  pub regions_are : G.regions ≡ regions
  pub goal_is : G.goal ≡ suc goal
  pub steps : Near G near

-- the runner on j + 1 is not captured, and stands on the goal or gets into the set by one step
unfoldable pub runner_bit : List ℕ → ℕ → ℕ → ℕ → ℕ → Bool
unfolding do_meet
runner_bit near goal set g j = not (eqb j g) && (eqb j goal || do_meet (get_or near j 0) set)

-- the runner on j + 1 is in every set that the guard can go to, or on a goal where the guard is not
unfoldable pub guard_bit : List ℕ → ℕ → ℕ → List ℕ → ℕ → ℕ → Bool
unfolding all_below
guard_bit near regions goal sets g j = all_below regions (λ d. not (bit_at near g d) || bit_at sets d j) || (not (eqb g goal) && eqb j goal)
