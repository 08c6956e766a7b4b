-- The rank that a list of ranks is to have at a place: one more than the fewest moves. (What is true of it: proofs/RankLaws.antt.)
use Prim.Native.Nat.{ℕ, suc}
use Rattle.std.proofs.Math.Bool.{cond}
use Rattle.game.specs.Game.{Game, Place}
use Rattle.game.specs.Search.{runner_wins, fewest}

module _ (G : Game) where
  -- where the runner wins; 0 elsewhere
  unfoldable pub rank_of : Place → ℕ
  unfolding runner_wins fewest
  rank_of x = cond (runner_wins G x) (suc (fewest G x)) 0
