-- `is_local` meets its contract, from what its callees ensure. Assumes nothing.
use mathlib.Core.Path.{subst⁻¹}
use Rattle.laws.specs.FloatLaws.Pixels.{HalfPixelPoint, center-half}
use Rattle.geometry.specs.Forms.{segment_form}
use Rattle.geometry.proofs.Ends.{pixel}
use Rattle.context.specs.Records.{record_of}
use Rattle.junction_regions.proofs.Regions.{local-span, local-middle}
use Rattle.junction_regions.proofs.is_local.Goals as goal

pub returns-then-one : goal.returns-then-one
returns-then-one c =
    local-span (record_of c.args.first) (record_of c.args.second) (segment_form c.args.ends) c.if-one.true c.within_span_radius.ensures c.within_span_radius-then-one.ensures

pub within_radius-requires : goal.within_radius-requires
within_radius-requires c =
    (c.requires.0, subst⁻¹ HalfPixelPoint c.center-middle.ensures (center-half (record { first = pixel c.requires.1.1.0; second = pixel c.requires.1.1.1 })))

pub within_radius-requires-2 : goal.within_radius-requires-2
within_radius-requires-2 c =
    (c.requires.1.0, subst⁻¹ HalfPixelPoint c.center-middle.ensures (center-half (record { first = pixel c.requires.1.1.0; second = pixel c.requires.1.1.1 })))

pub returns : goal.returns
returns c =
    local-middle (record_of c.args.first) (record_of c.args.second) (segment_form c.args.ends) c.if-one.false c.center-middle.ensures c.within_radius.ensures c.within_radius-2.ensures
