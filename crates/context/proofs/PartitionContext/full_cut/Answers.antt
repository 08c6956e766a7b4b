-- `PartitionContext::full_cut` meets its contract: the tallies are what the context has. Assumes nothing.
use Rattle.context.proofs.FullPairs.{cut-shown}
use Rattle.context.proofs.PartitionContext.full_cut.Goals as goal

pub returns : goal.returns
returns c = λ C T l. cut-shown C T l
