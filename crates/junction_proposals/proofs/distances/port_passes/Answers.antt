-- `junction_proposals::distances::port_passes` meets its contract: the code is the test as it stands, with what `width_at` and `is_near_port` ensure. Assumes nothing.
use mathlib.Core.Bool.{not, ◌&&◌, ◌||◌}
use lib.Dec.{leb}
use Rattle.junction_proposals.specs.Unions.{passes_at}
use Rattle.junction_proposals.proofs.distances.port_passes.Goals as goal

pub returns : goal.returns
unfolding passes_at
returns c =
    λ j. (not c.args.one || leb (c.width_at-other.ensures j) (c.width_at-own.ensures j)) && c.is_near_port.ensures j
