-- `pool_faults::faults::passes` meets its contract, by the search; written so that a wrong body is refused sooner. Assumes nothing.
use Rattle.std.proofs.Common.{rules}
use Rattle.pool_faults.proofs.faults.passes.Goals as goal

pub returns : goal.returns
returns c = search rules
