-- `board::Board::guard_row` meets its contract. The loop's invariant (`GuardRow`): the row is what all sets so far have in common. Assumes nothing.
use Rattle.game_sets.proofs.Rows.{GuardRow}
use Rattle.game_sets.proofs.board.Board.guard_row.Given as goal

abbrev pub invariant-loop-d : goal.invariant-loop-d
invariant-loop-d l = GuardRow l.self.near l.self.regions l.sets l.g l.d l.row
