-- `bridge_region` meets its contract, from what its callees ensure. Assumes nothing.
use mathlib.Core.Path.{◌≡◌, ap, ◌∙◌, subst⁻¹}
use mathlib.Core.Bool.{◌&&◌}
use Rattle.definitions.specs.Geometry.{center}
use Rattle.definitions.specs.Junctions.{within_radius}
use Rattle.laws.specs.FloatLaws.Pixels.{HalfPixelPoint, center-half}
use Rattle.geometry.specs.Forms.{segment_form}
use Rattle.geometry.proofs.Ends.{pixel}
use Rattle.context.specs.Records.{record_of}
use Rattle.junction_regions.specs.Tests.{bridge_of}
use Rattle.junction_regions.proofs.Regions.{no_ramp_lem}
use Rattle.junction_regions.proofs.bridge_region.Goals as goal

pub within_radius-requires : goal.within_radius-requires
within_radius-requires c =
    (c.requires.0, subst⁻¹ HalfPixelPoint c.center.ensures (center-half (record { first = pixel c.requires.1.0; second = pixel c.requires.1.1 })))

pub returns : goal.returns
unfolding bridge_of
returns c =
    let s = record_of c.args.pocket in
    let near : c.within_radius.result ≡ within_radius s (center (segment_form c.args.ends)) = c.within_radius.ensures ∙ ap (within_radius s) c.center.ensures in
    λ i. no_ramp_lem s.ramp_cells_lem i && (near i && c.is_strictly_flat.ensures i)
