-- `put_column` meets its contract. The loop's invariant is `ColumnFilled`: the rows of the first i are stored. The measure is how many are left. Assumes
-- nothing.
use Rattle.separation_list.proofs.Storing.{column-starts, column-goes_on}
use Rattle.separation_list.proofs.put_column.Goals as goal

pub loop-i-init : goal.loop-i-init
loop-i-init c = column-starts _ _ _ _

pub loop-i-preserved : goal.loop-i-preserved
loop-i-preserved c =
    column-goes_on c.loop-i.invariant c.loop-i-test.true c.put_pair.ensures c.put_pair.auto.output
