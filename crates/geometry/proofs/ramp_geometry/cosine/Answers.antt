-- `ramp_geometry::cosine` meets its contract: the numbers are what `difference` ensures. Assumes nothing.
use lib.Ieee.{binary64, add}
use Rattle.geometry.proofs.Quotients.{quotient-of}
use Rattle.geometry.proofs.ramp_geometry.cosine.Goals as goal

pub returns : goal.returns
returns c =
    quotient-of (add binary64) c.args.lengths c.difference.ensures c.difference-2.ensures
    c.difference-3.ensures c.difference-4.ensures c.abs.ensures.value
