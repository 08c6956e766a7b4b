-- `row_runs::corners::is_plain` meets its contract: two numbers together are zero only if each is. Assumes nothing.
use borrow.Author.Tests.{eqb-true}
use Rattle.row_runs.proofs.Marks.{or_none}
use Rattle.row_runs.proofs.corners.is_plain.Goals as goal

pub returns : goal.returns
returns c = λ e. or_none _ _ (eqb-true _ _ e)
