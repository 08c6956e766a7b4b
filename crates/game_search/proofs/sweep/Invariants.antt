-- `search::sweep` meets its contract. The loop's invariant (`Sweeping`): the rows of the guard's regions below g are put. Assumes nothing.
use Rattle.game_search.proofs.Rows.{Sweeping}
use Rattle.game_search.proofs.sweep.Given as goal

abbrev pub invariant-loop-g : goal.invariant-loop-g
invariant-loop-g l = Sweeping l.board.near l.board.regions l.board.goal l.won.runner l.won.guard l.g l.next.runner l.next.guard
