-- `result_reader::back` meets its contract: the pairs, the rows behind them, and the end. Assumes nothing.
use Rattle.std.proofs.Common.{◌∙◌}
use Rattle.sheet.proofs.Passed.{passed}
use Rattle.result_reader.proofs.Answering.{first_of}
use Rattle.result_reader.proofs.Chains.{back-stops, back-stops-later, back-too_long, back_found}
use Rattle.result_reader.proofs.back.Goals as goal

pub returns-in_err-pairs : goal.returns-in_err-pairs
returns-in_err-pairs c = rw (passed _ c.from_residual.ensures.1) (back-stops _ _ c.in_err-pairs.ensures)

pub returns-in_err-rows : goal.returns-in_err-rows
returns-in_err-rows c = rw (passed _ c.from_residual-in_err-rows.ensures.1) (back-stops-later c.in_ok-pairs.ensures c.in_err-rows.ensures)

pub returns-in_err-end_at : goal.returns-in_err-end_at
returns-in_err-end_at c =
    let left_over = c.in_err-end_at.ensures in
    rw (passed _ c.from_residual-in_err-end_at.ensures.1, left_over.1) (back-too_long c.in_ok-pairs.ensures c.in_ok-rows.ensures left_over.0)

pub returns : goal.returns
returns c = back_found c.in_ok-pairs.ensures c.in_ok-rows.ensures c.in_ok-end_at.ensures (c.or.ensures ∙ first_of c.in_ok-pairs.pairs.value.breach c.in_ok-rows.rows.value.breach)
