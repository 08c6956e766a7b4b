-- `pool_terms::terms::Days::is_empty` meets its contract, by the search; written so that a wrong body is refused sooner. Assumes nothing.
use Rattle.std.proofs.Common.{rules}
use Rattle.pool_terms.proofs.terms.Days.is_empty.Goals as goal

pub returns : goal.returns
returns c = search rules
