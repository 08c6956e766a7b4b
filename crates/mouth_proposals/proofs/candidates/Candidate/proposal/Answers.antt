-- `mouth_proposals::candidates::Candidate::proposal` meets its contract, by the search; written so that a wrong body is refused sooner. Assumes nothing.
use Rattle.std.proofs.Common.{rules}
use Rattle.mouth_proposals.proofs.candidates.Candidate.proposal.Goals as goal

pub returns : goal.returns
returns c = search rules
