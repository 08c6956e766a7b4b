-- The number of a place in the list of verdicts, and what the three numbers there are of a verdict. (What is true of them: proofs/EntryLaws.antt.)
use Prim.Native.Nat.{ℕ, ◌+◌, ◌-◌, ◌*◌}
use Rattle.std.specs.Prelude.{◌≡◌, cond, List}
use Rattle.std.proofs.Math.ListN.{get_or}
use Rattle.game.specs.Game.{Game, Place}
use Rattle.game.specs.Play.{Verdict}
use Rattle.game.specs.Graph.{numbers_per_verdict}

module _ (G : Game) where
  -- ---- the number of a place

  unfoldable pub number_of : Place → ℕ
  number_of x = ((x.runner - 1) * G.regions + (x.guard - 1)) * 2 + cond x.runners_turn 0 1

-- the three numbers of a place are those of the verdict w
pub record Entry (v : List ℕ) (c : ℕ) (w : Verdict) : Type 0 where
  pub winner : get_or v (numbers_per_verdict * c + 0) 0 ≡ cond w.runners_win 1 2
  pub moves : get_or v (numbers_per_verdict * c + 1) 0 ≡ w.moves
  pub region : get_or v (numbers_per_verdict * c + 2) 0 ≡ w.region
