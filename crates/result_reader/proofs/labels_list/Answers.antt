-- `result_reader::labels_list` meets its contract: a count, and the labels behind it. Assumes nothing.
use Rattle.sheet.proofs.Passed.{passed}
use Rattle.result_reader.proofs.Numbers.{item-inside}
use Rattle.result_reader.proofs.Lists.{count-fails, labels-found, labels-stopped}
use Rattle.result_reader.proofs.labels_list.Goals as goal

pub returns-in_err-count : goal.returns-in_err-count
returns-in_err-count c = rw (passed _ c.from_residual.ensures.1) (count-fails _ _ _ c.in_err-count.ensures)

pub walk_labels-requires : goal.walk_labels-requires
walk_labels-requires c = item-inside _ _ c.requires c.in_ok-count.ensures

pub returns-in_err-labels : goal.returns-in_err-labels
returns-in_err-labels c = rw (passed _ c.from_residual-in_err-labels.ensures.1) (labels-stopped _ _ c.in_ok-count.ensures c.args.regions.count _ c.in_err-labels.ensures)

pub returns : goal.returns
returns c = labels-found _ _ c.in_ok-count.ensures _ _ c.requires c.in_ok-labels.ensures c.turns_breach.ensures
