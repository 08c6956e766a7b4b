-- `desk_checks::own::is_span` meets its contract, by the search; written so that a wrong body is refused sooner. Assumes nothing.
use Rattle.std.proofs.Common.{rules}
use Rattle.desk_checks.proofs.own.is_span.Goals as goal

pub returns : goal.returns
returns c = search rules
