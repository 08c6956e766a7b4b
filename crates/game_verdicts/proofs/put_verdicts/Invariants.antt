-- `put_verdicts` meets its contract. The loop's invariant (`Putting`): the verdicts of the first c places are stored. Assumes nothing.
use Rattle.game_verdicts.proofs.Reading.{Putting}
use Rattle.game_verdicts.proofs.put_verdicts.Given as goal

abbrev pub invariant-loop-c : goal.invariant-loop-c
invariant-loop-c l = Putting l.board.near l.board.regions l.board.goal l.ranks l.initial.verdicts l.c l.verdicts
