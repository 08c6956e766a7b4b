-- `search::put_ranks` meets its contract. The loop's invariant (`Ranking`): the places of the first rows, each a region of the guard and a turn, are put, the
-- others are as they were. Assumes nothing.
use Rattle.game_search.proofs.Rows.{Ranking}
use Rattle.game_search.proofs.put_ranks.Given as goal

abbrev pub invariant-loop-at : goal.invariant-loop-at
invariant-loop-at l = Ranking l.won.runner l.won.guard l.next.runner l.next.guard l.rank l.initial.ranks l.at l.ranks
