-- `ranked_finish::numbers_of` meets its contract: the row's numbers as they are. Assumes nothing.
use Rattle.std.proofs.Common.{rules}
use Rattle.ranked_rows.specs.Contract.{row_numbers}
use Rattle.ranked_finish.proofs.numbers_of.Goals as goal

pub returns : goal.returns
unfolding row_numbers
returns c = search rules
