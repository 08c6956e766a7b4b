-- `checks::sizes::cells_fit` meets its contract, by the search; written so that a wrong body is refused sooner. Assumes nothing.
use Rattle.std.proofs.Common.{rules}
use Rattle.checks.proofs.sizes.cells_fit.Goals as goal

pub returns : goal.returns
returns c = search rules
