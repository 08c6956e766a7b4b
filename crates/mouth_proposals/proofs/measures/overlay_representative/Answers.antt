-- `measures::overlay_representative` meets its contract, from what its callees ensure. Assumes nothing.
use mathlib.Core.Path.{ap₂, ◌∙◌}
use Rattle.definitions.specs.RampGeometry.{overlapping_ramp_representative}
use Rattle.mouth_proposals.proofs.Measured.{endpoints-shown, width-shown, overlay_by, overlay-not}
use Rattle.mouth_proposals.proofs.measures.overlay_representative.Goals as goal

pub returns-then-fmax-fmin : goal.returns-then-fmax-fmin
returns-then-fmax-fmin c =
    λ C S hm ha.
    overlay_by C c.args.m c.args.a (width-shown S c.args.m hm c.width_of-mouth.ensures) (width-shown S c.args.a ha c.width_of-ramp.ensures)
    c.fmax.ensures c.fmin.ensures c.if-fmax-fmin.true
    (c.overlapping_ramp_representative.ensures
    ∙ ap₂ overlapping_ramp_representative (endpoints-shown S c.args.m hm c.segment_of.ensures) (endpoints-shown S c.args.a ha c.segment_of-then-fmax-fmin.ensures))

pub returns-else-fmax-fmin : goal.returns-else-fmax-fmin
returns-else-fmax-fmin c =
    λ C S hm ha.
    c.if-fmax-fmin.false
    ∙ overlay-not C c.args.m c.args.a (width-shown S c.args.m hm c.width_of-mouth.ensures) (width-shown S c.args.a ha c.width_of-ramp.ensures)
    c.fmax.ensures c.fmin.ensures c.if-fmax-fmin.false
