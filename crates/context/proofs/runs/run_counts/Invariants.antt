-- `context::runs::run_counts` meets its contract. The loop's invariant is `Counting`: the cells before those that are left are counted. Assumes nothing.
use lib.ListN.{length}
use Rattle.context.proofs.RunCounting.{Counting}
use Rattle.context.proofs.runs.run_counts.Given as goal

abbrev pub invariant-loop-alike : goal.invariant-loop-alike
invariant-loop-alike l = Counting l.fn.run 0 (length l.fn.run) l.alike-iterator.rest.now l.ramps l.elevations
