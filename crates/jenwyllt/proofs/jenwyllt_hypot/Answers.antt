-- `jenwyllt::jenwyllt_hypot` meets its contract, by the search; written so that a wrong body is refused sooner. Assumes nothing.
use Rattle.std.proofs.Common.{rules}
use Rattle.jenwyllt.proofs.jenwyllt_hypot.Goals as goal

pub returns : goal.returns
returns c = search rules
