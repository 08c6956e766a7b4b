-- `result_writer::group_count` meets its contract: a group is seven bits, and a number below 128 has one. Assumes nothing.
use native.Mathlib.Omega.{arith}
use Rattle.result_writer.proofs.Groups.{one_alone, groups_by_power}
use Rattle.result_writer.proofs.group_count.Goals as goal

pub returns-then-n-lt128 : goal.returns-then-n-lt128
returns-then-n-lt128 c = one_alone c.args.n c.if-n-lt128.true

pub returns : goal.returns
returns c = groups_by_power c.args.n c.args.n c.ilog2.result (omega (arith, c.if-n-lt128.false)) c.ilog2.ensures.power_le c.ilog2.ensures.next_power_gt c.ilog2.ensures.bound
