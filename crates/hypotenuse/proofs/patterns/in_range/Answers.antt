-- `hypotenuse::patterns::in_range` meets its contract, by the search; written so that a wrong body is refused sooner. Assumes nothing.
use Rattle.std.proofs.Common.{rules}
use Rattle.hypotenuse.proofs.patterns.in_range.Goals as goal

pub returns-then-b-eq0 : goal.returns-then-b-eq0
returns-then-b-eq0 c = search rules

pub returns-else-b-eq0 : goal.returns-else-b-eq0
returns-else-b-eq0 c = search rules
