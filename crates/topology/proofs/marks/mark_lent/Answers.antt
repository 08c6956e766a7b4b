-- The marks are those of the pass over the partition of what is asked.
use Rattle.std.proofs.Common.{arith}
use Rattle.topology.proofs.marks.mark_lent.Goals as goal

pub overflow_mul-partition : goal.overflow_mul-partition
overflow_mul-partition c = record { fits = omega (arith, c.requires.few) }
