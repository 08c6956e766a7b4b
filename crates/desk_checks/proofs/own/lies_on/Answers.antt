-- `desk_checks::own::lies_on` meets its contract, by the search; written so that a wrong body is refused sooner. Assumes nothing.
use Rattle.std.proofs.Common.{rules}
use Rattle.desk_checks.proofs.own.lies_on.Goals as goal

pub is_span-requires : goal.is_span-requires
is_span-requires c = search rules

pub returns-then-i-boundaries : goal.returns-then-i-boundaries
returns-then-i-boundaries c = search rules
