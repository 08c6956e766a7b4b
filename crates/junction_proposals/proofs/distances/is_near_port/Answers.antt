-- `junction_proposals::distances::is_near_port` meets its contract, from what its callees ensure. Assumes nothing.
use Prim.Native.Nat.{◌*◌}
use mathlib.Core.Path.{ap, ◌∙◌}
use lib.Ieee.{binary64, of_bits}
use Rattle.definitions.specs.Limits.{numbers_per_boundary}
use Rattle.definitions.specs.Grid.{segment_at}
use Rattle.definitions.specs.Geometry.{center}
use Rattle.definitions.specs.Junctions.{within_distance}
use Rattle.junction_proposals.specs.Unions.{is_near}
use Rattle.junction_proposals.proofs.Literals.{port-limit_is}
use Rattle.junction_proposals.proofs.Near.{centers_within}
use Rattle.junction_proposals.proofs.distances.is_near_port.Goals as goal

pub returns : goal.returns
unfolding is_near
returns c =
    let l = c.args.boundaries.now in
    centers_within (of_bits binary64 0x4078000000000000) c.requires.0.pixels c.requires.1.pixels c.center_of.ensures c.center_of-2.ensures c.within_distance.ensures
    ∙ ap (within_distance (center (segment_at l (numbers_per_boundary * c.args.i))) (center (segment_at l (numbers_per_boundary * c.args.j)))) port-limit_is
