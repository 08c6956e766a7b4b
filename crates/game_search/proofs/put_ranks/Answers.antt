-- `search::put_ranks` meets its contract. The loop's invariant (`Ranking`): the places of the first rows, each a region of the guard and a turn, are put, the
-- others are as they were. Assumes nothing.
use Rattle.std.proofs.Common.{rules}
use Rattle.game_search.proofs.Rows.{ranking_more}
use Rattle.game_search.proofs.put_ranks.Goals as goal

pub loop-at-preserved : goal.loop-at-preserved
loop-at-preserved c =
    ranking_more _ _ _ _ _ _ _ _ _ _ _ c.loop-at.invariant (search rules) c.set_for.ensures c.set_for-in-loop-at.ensures c.put_row.ensures (search rules)
