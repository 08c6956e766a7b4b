-- `incidents::unpack` meets its contract. The invariant: the entries passed are counts alone, and the others as they were. Assumes nothing.
use Rattle.context.proofs.IncidentCounts.{Unpacking}
use Rattle.context.proofs.incidents.unpack.Given as goal

abbrev pub invariant-loop-count : goal.invariant-loop-count
invariant-loop-count l = Unpacking l.initial.counts l.count-index l.counts
