-- `result_reader::walk_keys` meets its contract. The loop's invariant is `Walking`. Assumes nothing.
use Rattle.sheet.proofs.Passed.{passed}
use Rattle.result_reader.proofs.Steps.{ascent_next}
use Rattle.result_reader.proofs.Walking.{walking_ends, walking_stops, walking_goes_on}
use Rattle.result_reader.proofs.walk_keys.Goals as goal

pub returns-in_err-numbers : goal.returns-in_err-numbers
returns-in_err-numbers g c = rw (passed _ c.from_residual.ensures.1) (walking_stops _ _ _ c.loop.invariant c.loop-test.true _ c.in_err-numbers.ensures)

pub loop-preserved : goal.loop-preserved
loop-preserved g c =
    walking_goes_on _ _ _ c.loop.invariant c.loop-test.true c.in_ok-numbers.ensures (ascent_next _ _ _ _ _ _ c.climb-state.ensures c.key.ensures)

pub returns : goal.returns
returns g c = walking_ends _ _ _ c.loop.invariant c.loop-test.false
