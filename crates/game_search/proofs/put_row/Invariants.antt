-- `search::put_row` meets its contract. The loop's invariant (`RankRow`): the places of the runner's regions below r are put, the others are as they were.
-- Assumes nothing.
use Rattle.game_search.proofs.Rows.{RankRow}
use Rattle.game_search.proofs.put_row.Given as goal

abbrev pub invariant-loop-r : goal.invariant-loop-r
invariant-loop-r l = RankRow l.old l.new l.at l.rank l.initial.ranks l.r l.ranks
