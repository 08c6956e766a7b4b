-- `checks::boundaries::boundary_fits` meets its contract, from what its three callees ensure. Assumes nothing.
use mathlib.Core.Bool.{◌&&◌}
use Rattle.definitions.specs.Refusals.{boundary_fits}
use Rattle.checks.proofs.boundaries.boundary_fits.Goals as goal

pub returns : goal.returns
unfolding boundary_fits
returns c = λ i. c.both_on_map.ensures i && c.width_fits.ensures i && c.ramp_fits.ensures i
