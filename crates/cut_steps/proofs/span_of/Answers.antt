-- `cut_steps::span_of` meets its contract, by the search; written so that a wrong body is refused sooner. Assumes nothing.
use Rattle.std.proofs.Common.{rules}
use Rattle.cut_steps.proofs.span_of.Goals as goal

pub returns : goal.returns
returns c = search rules
