-- `span_geometry::numbers::div_euclid` meets its contract, by the search; written so that a wrong body is refused sooner. Assumes nothing.
use Rattle.std.proofs.Common.{rules}
use Rattle.span_geometry.proofs.numbers.div_euclid.Goals as goal

pub returns : goal.returns
returns c = search rules
