-- `row_runs::label_cells` meets its contract. Assumes nothing.
use Rattle.row_runs.proofs.Labels.{number-asked, finished, labelled-all}
use Rattle.row_runs.proofs.label_cells.Goals as goal

pub number-requires : goal.number-requires
number-requires c =
    number-asked c.requires c.join_cells.ensures

pub returns : goal.returns
returns c =
    labelled-all (finished c.alone.ensures c.join_cells.ensures c.number.ensures)
