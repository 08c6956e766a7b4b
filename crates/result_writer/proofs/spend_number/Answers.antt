-- `result_writer::spend_number` meets its contract: the size is compared with what is left. Assumes nothing.
use Rattle.std.proofs.Common.{refl}
use Rattle.result_writer.proofs.Spending.{spent-known}
use Rattle.result_writer.proofs.spend_number.Goals as goal

pub returns : goal.returns
returns c = spent-known _ _ refl c.group_count.ensures c.checked_sub.ensures
