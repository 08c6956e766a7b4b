-- `assessments::assess_spans` meets its contract. The loop's invariant (`Before`): the rows and tallies of the spans before s are in their lists. Assumes nothing.
use Rattle.assessments.proofs.Spans.{Before}
use Rattle.assessments.proofs.assess_spans.Given as goal

abbrev pub invariant-loop-s : goal.invariant-loop-s
invariant-loop-s l = Before l.grid.width l.grid.height l.grid.cells.now l.spans l.labels l.initial.tallies l.initial.pairs l.s l.tallies l.pairs l.end
