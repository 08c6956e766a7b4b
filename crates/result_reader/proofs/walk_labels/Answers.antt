-- `result_reader::walk_labels` meets its contract. The loop's invariant is `Walking`. Assumes nothing.
use Rattle.sheet.proofs.Passed.{passed}
use Rattle.result_reader.proofs.Numbers.{one_found, one_fails}
use Rattle.result_reader.proofs.Steps.{turn_next}
use Rattle.result_reader.proofs.Walking.{walking_ends, walking_stops, walking_goes_on}
use Rattle.result_reader.proofs.walk_labels.Goals as goal

pub returns-in_err-label : goal.returns-in_err-label
returns-in_err-label c = rw (passed _ c.from_residual.ensures.1) (walking_stops _ _ _ c.loop.invariant c.loop-test.true _ (one_fails _ _ c.in_err-label.ensures))

pub loop-preserved : goal.loop-preserved
loop-preserved c =
    walking_goes_on _ _ _ c.loop.invariant c.loop-test.true (one_found _ _ c.in_ok-label.ensures) (turn_next _ _ _ _ c.turn-state.ensures)

pub returns : goal.returns
returns c = walking_ends _ _ _ c.loop.invariant c.loop-test.false
