-- `call_partition::redivide` meets its contract, by the search; written so that a wrong body is refused sooner. Assumes nothing.
use Rattle.std.proofs.Common.{rules}
use Rattle.call_partition.proofs.redivide.Goals as goal

pub returns-clause-divided : goal.returns-clause-divided
returns-clause-divided c = search rules
