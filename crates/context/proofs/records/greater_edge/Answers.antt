-- `records::greater_edge` meets its contract: `fmax` is the choice between the two edges. Assumes nothing.
use Rattle.definitions.specs.RampGeometry.{fmax}
use Rattle.context.proofs.records.greater_edge.Goals as goal

pub returns-else-first : goal.returns-else-first
unfolding fmax
returns-else-first c = simp (c.if-first.false, c.fmax.ensures)
