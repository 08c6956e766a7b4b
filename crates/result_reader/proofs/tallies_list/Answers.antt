-- `result_reader::tallies_list` meets its contract: a count, and the tallies behind it. Assumes nothing.
use Rattle.sheet.proofs.Passed.{passed}
use Rattle.result_reader.proofs.Numbers.{item-inside}
use Rattle.result_reader.proofs.Lists.{count-fails, tallies-found, tallies-stopped}
use Rattle.result_reader.proofs.tallies_list.Goals as goal

pub returns-in_err-count : goal.returns-in_err-count
returns-in_err-count c = rw (passed _ c.from_residual.ensures.1) (count-fails _ _ _ c.in_err-count.ensures)

pub judge_twice-requires : goal.judge_twice-requires
judge_twice-requires c = item-inside _ _ c.requires c.in_ok-count.ensures

pub returns-in_err-next : goal.returns-in_err-next
returns-in_err-next c = rw (passed _ c.from_residual-in_err-next.ensures.1) (tallies-stopped _ _ c.in_ok-count.ensures _ c.in_err-next.ensures)

pub returns : goal.returns
returns c = tallies-found _ _ c.in_ok-count.ensures c.requires c.in_ok-next.ensures
