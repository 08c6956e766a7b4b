-- `checks::spans::check_span` meets its contract, by the search; written so that a wrong body is refused sooner. Assumes nothing.
use Rattle.std.proofs.Common.{rules}
use Rattle.checks.proofs.spans.check_span.Goals as goal

pub returns-then-not-endpoints_differ : goal.returns-then-not-endpoints_differ
returns-then-not-endpoints_differ c = search rules
