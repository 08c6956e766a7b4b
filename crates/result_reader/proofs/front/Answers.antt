-- `result_reader::front` meets its contract: the labels, and the tallies behind them. Assumes nothing.
use Rattle.sheet.proofs.Passed.{passed}
use Rattle.result_reader.proofs.Chains.{front-stops, front-stops-later, front-found}
use Rattle.result_reader.proofs.front.Goals as goal

pub returns-in_err-labels : goal.returns-in_err-labels
returns-in_err-labels c = rw (passed _ c.from_residual.ensures.1) (front-stops _ _ c.in_err-labels.ensures)

pub returns-in_err-tallies : goal.returns-in_err-tallies
returns-in_err-tallies c = rw (passed _ c.from_residual-in_err-tallies.ensures.1) (front-stops-later _ _ c.in_ok-labels.ensures c.in_err-tallies.ensures)

pub returns : goal.returns
returns c = front-found _ _ c.in_ok-labels.ensures c.in_ok-tallies.ensures
