-- `pool_terms::terms::Days::has` meets its contract, by the search; written so that a wrong body is refused sooner. Assumes nothing.
use Rattle.std.proofs.Common.{rules}
use Rattle.pool_terms.proofs.terms.Days.has.Goals as goal

pub returns-then-self-day : goal.returns-then-self-day
returns-then-self-day c = search rules

pub returns-else-self-day : goal.returns-else-self-day
returns-else-self-day c = search rules
