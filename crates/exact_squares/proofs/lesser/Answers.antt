-- `exact_squares::lesser` meets its contract, by the search; written so that a wrong body is refused sooner. Assumes nothing.
use Rattle.std.proofs.Common.{rules}
use Rattle.exact_squares.proofs.lesser.Goals as goal

pub returns-then-from : goal.returns-then-from
returns-then-from c = search rules

pub returns-else-from : goal.returns-else-from
returns-else-from c = search rules
