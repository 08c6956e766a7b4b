-- `result_reader::judge_twice` meets its contract: as many numbers and as many more. Assumes nothing.
use Rattle.sheet.proofs.Passed.{passed}
use Rattle.result_reader.proofs.Numbers.{twice-inside, twice-goes_on, twice-stops}
use Rattle.result_reader.proofs.judge_twice.Goals as goal

pub returns-in_err-middle : goal.returns-in_err-middle
returns-in_err-middle c = rw (passed _ c.from_residual.ensures.1) (twice-stops _ _ _ _ c.in_err-middle.ensures)

pub judge-requires-2 : goal.judge-requires-2
judge-requires-2 c = twice-inside _ _ _ c.in_ok-middle.ensures c.requires

pub returns : goal.returns
returns c = twice-goes_on _ _ _ c.in_ok-middle.ensures _ c.judge-2.ensures
