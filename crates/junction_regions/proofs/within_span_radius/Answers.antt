-- `within_span_radius` meets its contract: each corner and the endpoints lie on a map, so that their distance is in range. Assumes nothing.
use Rattle.std.proofs.Common.{rules, tests, true, false}
use Rattle.std.proofs.lemmas.Iterator.{YieldsList-from_slice, cases_from_all}
use mathlib.Core.Path.{ap, ap₂, ◌∙◌, subst⁻¹}
use mathlib.Core.Bool.{◌&&◌}
use lib.Dec.{ltb}
use Rattle.definitions.specs.Scan.{all}
use Rattle.definitions.specs.RegionRecord.{corners}
use Rattle.definitions.specs.Junctions.{within_span_radius}
use Rattle.laws.specs.ListLaws.Lists.{all_map}
use Rattle.laws.specs.FloatLaws.Pixels.{PixelPoint, point-pixel, corners-pixel}
use Rattle.laws.specs.FloatLaws.DistanceRange.{DistanceInRange, nearest_point, point-segment-in_range}
use Rattle.geometry.specs.Forms.{point_form}
use Rattle.geometry.proofs.Ends.{pixel}
use Rattle.context.specs.Records.{record_of}
use Rattle.junction_regions.specs.Tests.{near_span}
use Rattle.junction_regions.proofs.Corners.{Answers, corners-tested}
use Rattle.junction_regions.proofs.within_span_radius.Goals as goal

pub returns : goal.returns
unfolding within_span_radius near_span
returns c =
    let a = point_form c.point-start.result in
    let b = point_form c.point-end.result in
    let s = record_of c.args.region in
    let ha = subst⁻¹ PixelPoint c.point-start.ensures (point-pixel (pixel c.requires.1.0)) in
    let hb = subst⁻¹ PixelPoint c.point-end.ensures (point-pixel (pixel c.requires.1.1)) in
    ap (λ t. ltb 0 s.cells && t)
    (corners-tested (λ p. DistanceInRange p (nearest_point p a b)) (near_span a b) c.corners-corners.result c.all-near.result s c.corners-corners.ensures
    (all_map (λ p h. point-segment-in_range p a b h ha hb) (corners-pixel c.requires.0))
    (cases_from_all _ _ c.all-near.result (Answers (λ p. DistanceInRange p (nearest_point p a b)) (near_span a b) true) (Answers (λ p. DistanceInRange p (nearest_point p a b)) (near_span a b) false) c.all-near.ensures.ran (YieldsList-from_slice c.corners-corners.result cc) (λ x q k. search (rules, tests)) (λ x q k. search (rules, tests))))
    ∙ ap₂ (λ a b. ltb 0 s.cells && all (near_span a b) (corners s)) c.point-start.ensures c.point-end.ensures
