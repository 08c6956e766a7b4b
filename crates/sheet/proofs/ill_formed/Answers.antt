-- `sheet::ill_formed` meets its contract, by the search; written so that a wrong body is refused sooner. Assumes nothing.
use Rattle.std.proofs.Common.{rules}
use Rattle.sheet.proofs.ill_formed.Goals as goal

pub returns : goal.returns
returns c = search rules
