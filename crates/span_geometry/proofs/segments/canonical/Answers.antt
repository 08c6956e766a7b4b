-- `segments::canonical` meets its contract: of two positions the lesser comes first. Assumes nothing.
use Rattle.std.proofs.Common.{arith}
use Rattle.std.proofs.lemmas.Grind.{common_steps}
use Rattle.definitions.specs.Grid.{canonical}
use Rattle.span_geometry.proofs.segments.canonical.Goals as goal

pub returns : goal.returns
unfolding canonical
returns c = grind (arith, common_steps)
