-- `measures::nearby_representative` meets its contract, from what its callees ensure. Assumes nothing.
use mathlib.Core.Path.{ap₂, ◌∙◌}
use Rattle.definitions.specs.RampGeometry.{is_nearby_parallel_representative}
use Rattle.definitions.specs.RampMouths.{nearby_representative}
use Rattle.mouth_proposals.proofs.Measured.{endpoints-shown}
use Rattle.mouth_proposals.proofs.measures.nearby_representative.Goals as goal

pub returns : goal.returns
unfolding nearby_representative
returns c =
    λ C S hm ha.
    c.is_nearby_parallel_representative.ensures
    ∙ ap₂ is_nearby_parallel_representative (endpoints-shown S c.args.m hm c.segment_of.ensures) (endpoints-shown S c.args.a ha c.segment_of-2.ensures)
