-- `replay` meets its contract. The invariant, at place i: the counts so far and those of the text from i on, behind the line that has begun, are the counts of the whole text.
-- The measure is what is left of the text. Assumes nothing.
use Rattle.hypotenuse_replay.proofs.Replayed.{Replayed}
use Rattle.hypotenuse_replay.proofs.replay.Given as goal

abbrev pub invariant-loop-i : goal.invariant-loop-i
invariant-loop-i g l = Replayed l.s l.initial.tally.0 l.initial.tally.1.0 l.tally.0 l.tally.1.0 l.start l.i
