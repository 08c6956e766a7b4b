-- `measures::separation_of` meets its contract, from what its callees ensure. Assumes nothing.
use mathlib.Core.Path.{ap₂, ◌∙◌}
use Rattle.definitions.specs.RampGeometry.{segment_distance}
use Rattle.definitions.specs.RampMouths.{separation_of}
use Rattle.mouth_proposals.proofs.Measured.{endpoints-shown}
use Rattle.mouth_proposals.proofs.measures.separation_of.Goals as goal

pub returns : goal.returns
unfolding separation_of
returns c =
    λ C S hm ha.
    c.segment_distance.ensures
    ∙ ap₂ segment_distance (endpoints-shown S c.args.m hm c.segment_of.ensures) (endpoints-shown S c.args.a ha c.segment_of-2.ensures)
