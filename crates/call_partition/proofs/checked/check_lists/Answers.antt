-- `call_partition::checked::check_lists` meets its contract, by the search; written so that a wrong body is refused sooner. Assumes nothing.
use Rattle.std.proofs.Common.{rules}
use Rattle.call_partition.proofs.checked.check_lists.Goals as goal

pub returns : goal.returns
returns c = search rules
