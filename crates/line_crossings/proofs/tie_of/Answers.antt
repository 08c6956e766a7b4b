-- `line_crossings::tie_of` meets its contract, by the search; written so that a wrong body is refused sooner. Assumes nothing.
use Rattle.std.proofs.Common.{rules}
use Rattle.line_crossings.proofs.tie_of.Goals as goal

pub returns : goal.returns
returns c = search rules
