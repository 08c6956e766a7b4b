-- `row_runs::cells::join_cells` meets its contract. The loop's invariant is `Joining`; the measure is how many rows are left. Assumes nothing.
use Rattle.row_runs.proofs.AllRows.{joining_starts, row-asked, joining_goes_on, joining_ends}
use Rattle.row_runs.proofs.cells.join_cells.Goals as goal

pub loop-y-init : goal.loop-y-init
loop-y-init c = joining_starts c.requires _

pub join_row-marked-requires : goal.join_row-marked-requires
join_row-marked-requires c =
    row-asked c.requires c.loop-y.invariant c.loop-y-test.true

pub loop-y-preserved : goal.loop-y-preserved
loop-y-preserved c =
    joining_goes_on c.loop-y.invariant c.loop-y-test.true c.join_row-marked.ensures

pub returns : goal.returns
returns c = joining_ends c.loop-y.invariant c.loop-y-test.false
