-- `junction_proposals::proposals::Kind::number` meets its contract, by the search; written so that a wrong body is refused sooner. Assumes nothing.
use Rattle.std.proofs.Common.{rules}
use Rattle.junction_proposals.proofs.proposals.Kind.number.Goals as goal

pub returns : goal.returns
returns c = search rules
