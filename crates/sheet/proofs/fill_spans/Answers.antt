-- `sheet::fill_spans` meets its contract, by the search; written so that a wrong body is refused sooner. Assumes nothing.
use Rattle.std.proofs.Common.{rules}
use Rattle.definitions.specs.Sheet.{endpoints_of}
use Rattle.sheet.proofs.fill_spans.Goals as goal

pub returns-in-SharedSpans : goal.returns-in-SharedSpans
unfolding endpoints_of
returns-in-SharedSpans c = search rules
