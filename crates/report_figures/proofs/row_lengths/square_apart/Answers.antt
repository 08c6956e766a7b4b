-- `row_lengths::square_apart` meets its contract: pixels are at most 8,192. Assumes nothing.
use Rattle.std.proofs.Common.{arith}
use Rattle.report_figures.proofs.Lengths.{square-few}
use Rattle.report_figures.proofs.row_lengths.square_apart.Goals as goal

pub returns-clause-bound : goal.returns-clause-bound
returns-clause-bound c = square-few (omega (arith, c.abs_diff-apart.ensures, c.requires))
