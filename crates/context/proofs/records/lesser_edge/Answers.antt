-- `records::lesser_edge` meets its contract: `fmin` is the choice between the two edges. Assumes nothing.
use Rattle.definitions.specs.RampGeometry.{fmin}
use Rattle.context.proofs.records.lesser_edge.Goals as goal

pub returns-else-first : goal.returns-else-first
unfolding fmin
returns-else-first c = simp (c.if-first.false, c.fmin.ensures)
