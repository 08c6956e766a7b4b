-- `board::Board::runner_row` meets its contract. The loop's invariant (`RunnerRow`): the bits below r are put, and no other is set. Assumes nothing.
use Rattle.game_sets.proofs.Rows.{RunnerRow}
use Rattle.game_sets.proofs.board.Board.runner_row.Given as goal

abbrev pub invariant-loop-r : goal.invariant-loop-r
invariant-loop-r l = RunnerRow l.self.near l.self.regions l.self.goal l.set l.g l.r l.row
