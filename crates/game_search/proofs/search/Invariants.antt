-- `search::search` meets its contract. The loop's invariant (`Searched`): the sets have the places won within fewer than `moves` moves, and just these have
-- ranks. Assumes nothing.
use Rattle.game_search.proofs.Searching.{Searching}
use Rattle.game_search.proofs.search.Given as goal

abbrev pub invariant-loop-moves : goal.invariant-loop-moves
invariant-loop-moves l = Searching l.board.near l.board.regions l.board.goal l.moves l.won.runner l.won.guard l.ranks
