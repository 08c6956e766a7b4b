-- The search as it is carried out: a rank for each place, 0 while it is not found and one more than its moves once it is; and the verdict of a place by its rank
-- and those of the places after a move. RankLaws proves that verdict to be the search's. Definitions only; assumes nothing.
use Prim.Native.Nat.{ℕ, zero, suc, ◌*◌, ◌-◌}
use Rattle.std.specs.Prelude.{Bool, not, ◌&&◌}
use Rattle.std.proofs.Math.Bool.{cond}
use Rattle.std.specs.Bool.{beq}
use mathlib.Core.List.{List, map}
use Rattle.std.proofs.Math.ListN.{get_or}
use Rattle.std.proofs.Math.Dec.{ltb}
use Rattle.definitions.specs.Scan.{run, bit}
use Rattle.game.specs.Game.{Game, Place, move_to, is_move, runner_has_won, is_over}
use Rattle.game.specs.Play.{Verdict}
use Rattle.game.specs.Search.{least_below, sweep, sweeps}
use Rattle.game.specs.Places.{size, code, place_of}

module _ (G : Game) (rank : Place → ℕ) where
  unfoldable pub is_found : Place → Bool
  is_found x = ltb 0 (rank x)

  -- a region serves, by the ranks
  unfoldable pub serves_by : Place → ℕ → Bool
  unfolding is_move move_to is_found
  serves_by x d = is_move G x d && cond x.runners_turn (is_found (move_to x d) && ltb (rank (move_to x d)) (rank x)) (not (is_found (move_to x d)))

  unfoldable pub verdict_by : Place → Verdict
  unfolding is_found is_over least_below serves_by
  verdict_by x =
      record {
        runners_win = is_found x;
        moves = rank x - 1;
        region = cond (is_over G x) 0 (cond (beq x.runners_turn (is_found x)) (least_below (suc G.regions) (serves_by x)) 0);
      }

-- ---- all ranks as a list, for computed games

module _ (G : Game) where
  abbrev pub places : ℕ
  places = 2 * (size G * size G)

  unfoldable pub rank_in : List ℕ → Place → ℕ
  unfolding code
  rank_in t x = get_or t (code G x) 0

  -- the rank of the place of number c after one sweep more, which is the one that finds wins in suc k moves
  unfoldable pub rank_next : ℕ → List ℕ → ℕ → ℕ
  unfolding sweep is_found rank_in place_of
  rank_next k t c = cond (ltb 0 (get_or t c 0)) (get_or t c 0) (cond (sweep G (is_found G (rank_in t)) (place_of G c)) (suc (suc k)) 0)

  unfoldable pub ranks : ℕ → List ℕ
  unfolding run runner_has_won place_of rank_next
  ranks zero = map (λ c. bit (runner_has_won G (place_of G c))) (run 0 places)
  ranks (suc k) =
      let t = ranks k in
      map (rank_next k t) (run 0 places)

  unfoldable pub solved : List ℕ
  unfolding ranks sweeps
  solved = ranks (sweeps G)
