-- The search backwards from the won places: what it finds within n sweeps, and its verdict of a place. Nothing here has to be believed: Verdicts ties it to Play.
-- Definitions only; assumes nothing.
use Prim.Native.Nat.{ℕ, zero, suc, ◌*◌, ◌-◌}
use Rattle.std.specs.Prelude.{Bool, ◌&&◌, ◌||◌}
use Rattle.std.proofs.Math.Bool.{not, cond}
use Rattle.std.specs.Bool.{beq}
use Rattle.definitions.specs.Scan.{any_below_lem, all_below}
use Rattle.game.specs.Game.{Game, Place, move_to, is_move, runner_has_won, is_over}
use Rattle.game.specs.Play.{Verdict}

-- the first number below n that passes f (and n - 1 where none does)
unfoldable pub least_below : ℕ → (ℕ → Bool) → ℕ
unfolding any_below_lem
least_below zero f = 0
least_below (suc n) f = cond (any_below_lem n f) (least_below n f) n

module _ (G : Game) where
  -- f holds after some move of the one to move, or after every one
  unfoldable pub some_move : (Place → Bool) → Place → Bool
  unfolding any_below_lem is_move move_to
  some_move f x = any_below_lem (suc G.regions) (λ d. is_move G x d && f (move_to x d))

  unfoldable pub every_move : (Place → Bool) → Place → Bool
  unfolding all_below is_move move_to
  every_move f x = all_below (suc G.regions) (λ d. not (is_move G x d) || f (move_to x d))

  -- one move more, where f says from which places the runner wins already
  unfoldable pub sweep : (Place → Bool) → Place → Bool
  unfolding runner_has_won is_over some_move every_move
  sweep f x = runner_has_won G x || not (is_over G x) && cond x.runners_turn (some_move f x) (every_move f x)

  unfoldable pub wins_within : ℕ → Place → Bool
  unfolding runner_has_won sweep
  wins_within zero x = runner_has_won G x
  wins_within (suc n) x = sweep (wins_within n) x

  -- as many as there are places, and one more: from there on a sweep finds nothing new
  unfoldable pub sweeps : ℕ
  sweeps = suc (2 * (suc G.regions * suc G.regions))

  unfoldable pub runner_wins : Place → Bool
  unfolding wins_within sweeps
  runner_wins x = wins_within sweeps x

  -- the first sweep that finds x: the fewest moves of both sides
  unfoldable pub fewest : Place → ℕ
  unfolding least_below wins_within sweeps
  fewest x = least_below (suc sweeps) (λ k. wins_within k x)

  -- going to d keeps the runner to his fewest moves, or leaves him no win against the guard
  unfoldable pub serves : Place → ℕ → Bool
  unfolding is_move wins_within fewest move_to runner_wins
  serves x d = is_move G x d && cond x.runners_turn (wins_within (fewest x - 1) (move_to x d)) (not (runner_wins (move_to x d)))

  -- the least region that serves
  unfoldable pub region_for : Place → ℕ
  unfolding least_below serves
  region_for x = least_below (suc G.regions) (serves x)

  unfoldable pub verdict_of : Place → Verdict
  unfolding runner_wins fewest is_over region_for
  verdict_of x =
      record {
        runners_win = runner_wins x;
        moves = cond (runner_wins x) (fewest x) 0;
        region = cond (is_over G x) 0 (cond (beq x.runners_turn (runner_wins x)) (region_for x) 0);
      }
