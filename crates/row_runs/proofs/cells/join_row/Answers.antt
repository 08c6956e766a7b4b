-- `row_runs::cells::join_row` meets its contract. Assumes nothing.
use Rattle.row_runs.proofs.RowByRow.{first_done, other-asked, other-done}
use Rattle.row_runs.proofs.cells.join_row.Goals as goal

pub returns-then-y-eq0 : goal.returns-then-y-eq0
returns-then-y-eq0 c =
    first_done c.has_marks-marked.ensures c.scan_row.ensures c.if-y-eq0.true

pub join_pair-requires : goal.join_pair-requires
join_pair-requires c =
    other-asked c.has_marks-marked.ensures c.scan_row.ensures c.if-y-eq0.false c.requires

pub returns : goal.returns
returns c =
    other-done c.has_marks-marked.ensures c.scan_row.ensures c.if-y-eq0.false c.join_pair.ensures
