-- `neighbours::selves` meets its contract. The loop's invariant (`Selves`): each of the first i numbers has its own bit only. Assumes nothing.
use Rattle.game_search.proofs.Stepping.{Selves}
use Rattle.game_search.proofs.neighbours.selves.Given as goal

abbrev pub invariant-loop-i : goal.invariant-loop-i
invariant-loop-i l = Selves l.i l.set-items
