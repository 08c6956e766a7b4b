-- `ramp_geometry::Ramp::normal_offset` meets its contract: the numbers are what `difference` ensures. Assumes nothing.
use lib.Ieee.{binary64, sub}
use Rattle.geometry.proofs.Quotients.{quotient-of}
use Rattle.geometry.proofs.ramp_geometry.Ramp.normal_offset.Goals as goal

pub returns : goal.returns
returns c =
    quotient-of (sub binary64) c.args.self.length c.difference.ensures c.difference-2.ensures
    c.difference-3.ensures c.difference-4.ensures c.abs.ensures.value
