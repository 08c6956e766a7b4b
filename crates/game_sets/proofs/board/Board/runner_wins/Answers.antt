-- `board::Board::runner_wins` meets its contract. Assumes nothing.
use mathlib.Core.Path.{ap}
use mathlib.Core.Bool.{not, ◌&&◌, ◌||◌}
use lib.Dec.{eqb}
use Rattle.game_sets.specs.Words.{runner_bit}
use Rattle.game_sets.proofs.board.Board.runner_wins.Goals as goal

pub returns : goal.returns
unfolding runner_bit
returns c =
    let a = c.args in
    ap (λ m. not (eqb a.r a.g) && (eqb a.r a.self.now.goal || m)) c.meet.ensures
