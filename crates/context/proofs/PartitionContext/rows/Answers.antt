-- `context::PartitionContext::rows` meets its contract, by the search; written so that a wrong body is refused sooner. Assumes nothing.
use Rattle.std.proofs.Common.{rules}
use Rattle.context.proofs.PartitionContext.rows.Goals as goal

pub returns : goal.returns
returns c = search rules
