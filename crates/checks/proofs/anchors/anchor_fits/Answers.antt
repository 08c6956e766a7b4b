-- `checks::anchors::anchor_fits` meets its contract, by the search; written so that a wrong body is refused sooner. Assumes nothing.
use Rattle.std.proofs.Common.{rules}
use Rattle.checks.proofs.anchors.anchor_fits.Goals as goal

pub returns : goal.returns
returns c = search rules
