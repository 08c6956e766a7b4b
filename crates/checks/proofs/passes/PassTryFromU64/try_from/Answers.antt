-- `checks::passes::PassTryFromU64::try_from` meets its contract, by the search; written so that a wrong body is refused sooner. Assumes nothing.
use Rattle.std.proofs.Common.{rules}
use Rattle.checks.proofs.passes.PassTryFromU64.try_from.Goals as goal

pub returns-in-3 : goal.returns-in-3
returns-in-3 c = search rules

pub returns-in-1 : goal.returns-in-1
returns-in-1 c = search rules

pub returns-in-2 : goal.returns-in-2
returns-in-2 c = search rules
