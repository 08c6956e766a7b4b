-- `neighbours::selves` meets its contract. The loop's invariant (`Selves`): each of the first i numbers has its own bit only. Assumes nothing.
use Rattle.std.proofs.Common.{rules}
use Rattle.game_search.proofs.Stepping.{selves_more}
use Rattle.game_search.proofs.neighbours.selves.Goals as goal

pub loop-i-preserved : goal.loop-i-preserved
loop-i-preserved c = selves_more _ _ c.loop-i.invariant (search rules)
