-- `union_regions` meets its contract, from what its callees ensure. Assumes nothing.
use mathlib.Core.Bool.{◌&&◌, ◌||◌}
use Rattle.junction_regions.specs.Tests.{union_of}
use Rattle.junction_regions.proofs.Regions.{no_ramp_lem}
use Rattle.junction_regions.proofs.union_regions.Goals as goal

pub returns : goal.returns
unfolding union_of
returns c =
    λ i.
    no_ramp_lem c.args.first.ramp_cells i && no_ramp_lem c.args.second.ramp_cells i && c.is_local.ensures i
    && (c.is_strictly_flat.ensures i || c.args.one && c.same_dominance.ensures i)
