-- `within_radius` meets its contract: each corner lies on a map, so that its distance from a center is in range. Assumes nothing.
use Rattle.std.proofs.Common.{rules, tests, ap, true, false, ◌&&◌}
use Rattle.std.proofs.lemmas.Iterator.{YieldsList-from_slice, cases_from_all}
use lib.Dec.{ltb}
use Rattle.definitions.specs.Junctions.{within_radius}
use Rattle.laws.specs.ListLaws.Lists.{all_map}
use Rattle.laws.specs.FloatLaws.Pixels.{pixel-half, corners-pixel}
use Rattle.laws.specs.FloatLaws.DistanceRange.{DistanceInRange, distance-in_range}
use Rattle.geometry.specs.Forms.{point_form}
use Rattle.context.specs.Records.{record_of}
use Rattle.junction_regions.specs.Tests.{near_middle}
use Rattle.junction_regions.proofs.Corners.{Answers, corners-tested}
use Rattle.junction_regions.proofs.within_radius.Goals as goal

pub returns : goal.returns
unfolding within_radius near_middle
returns c =
    let middle = point_form c.args.middle in
    ap (λ b. ltb 0 c.args.region.cells && b)
    (corners-tested (λ p. DistanceInRange p middle) (near_middle middle) c.corners-corners.result c.all-near.result (record_of c.args.region) c.corners-corners.ensures
    (all_map (λ p h. distance-in_range p middle (pixel-half h) c.requires.1) (corners-pixel c.requires.0))
    (cases_from_all _ _ c.all-near.result (Answers (λ p. DistanceInRange p middle) (near_middle middle) true) (Answers (λ p. DistanceInRange p middle) (near_middle middle) false) c.all-near.ensures.ran (YieldsList-from_slice c.corners-corners.result cc) (λ x q k. search (rules, tests)) (λ x q k. search (rules, tests))))
