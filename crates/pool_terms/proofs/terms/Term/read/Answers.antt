-- `pool_terms::terms::Term::read` meets its contract, by the search; written so that a wrong body is refused sooner. Assumes nothing.
use Rattle.std.proofs.Common.{rules}
use Rattle.pool_terms.proofs.terms.Term.read.Goals as goal

pub returns : goal.returns
returns c = search rules
