-- `checks::cells::elevation_fits` meets its contract, by the search; written so that a wrong body is refused sooner. Assumes nothing.
use Rattle.std.proofs.Common.{rules}
use Rattle.checks.proofs.cells.elevation_fits.Goals as goal

pub returns : goal.returns
returns c = search rules
