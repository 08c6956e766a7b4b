-- `checks::sizes::are_whole` meets its contract, by the search; written so that a wrong body is refused sooner. Assumes nothing.
use Rattle.std.proofs.Common.{rules}
use Rattle.checks.proofs.sizes.are_whole.Goals as goal

pub returns : goal.returns
returns c = search rules
