-- `ranked_finish::put_listed` meets its contract. The loop's invariant: the first k rows are written (`WrittenTo`). Assumes nothing.
use Rattle.std.proofs.Common.{arith, ◌∙◌}
use Rattle.ranked_finish.proofs.Flat.{written_none, written_more}
use Rattle.ranked_finish.proofs.put_listed.Goals as goal

pub loop-k-init : goal.loop-k-init
loop-k-init c = (omega arith, written_none c.args.listed.now c.args.lent.now)

pub loop-k-preserved : goal.loop-k-preserved
loop-k-preserved c = (
  omega (arith, c.loop-k-test.true),
  written_more c.args.listed.now c.args.lent.now c.loop-k.lent c.loop-k.k c.loop-k.invariant.1 c.loop-k-test.true c.requires (c.copy_from_slice.ensures.after ∙ c.numbers_of.ensures),
)
