-- `measures::Measures::overlay_only` meets its contract, from what was measured. Assumes nothing.
use Rattle.mouth_proposals.proofs.Measured.{overlay_only_lem}
use Rattle.mouth_proposals.proofs.measures.Measures.overlay_only.Goals as goal

pub returns : goal.returns
returns c = λ C m a M. overlay_only_lem C m a M.broad M.nearby M.overlay
