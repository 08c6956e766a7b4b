-- `row_runs::cells::join_pair` meets its contract. Assumes nothing.
use borrow.Author.Tests.{not-true}
use Rattle.row_runs.proofs.PairNames.{pair-clear, pair_marked_lem, diagonals_asked}
use Rattle.row_runs.proofs.cells.join_pair.Goals as goal

pub returns-then-not-marked : goal.returns-then-not-marked
returns-then-not-marked c =
    pair-clear c.join_rows.ensures (c.requires.clear (not-true _ c.if-not-marked.true-raw))

pub join_diagonals-requires : goal.join_diagonals-requires
join_diagonals-requires c =
    diagonals_asked c.join_rows.ensures c.requires.rows

pub returns : goal.returns
returns c =
    pair_marked_lem c.join_rows.ensures c.join_diagonals.ensures
