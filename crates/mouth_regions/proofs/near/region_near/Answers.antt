-- `near::region_near` meets its contract: the corners, each tested against the centres. Assumes nothing.
use Rattle.std.proofs.Common.{rules, tests, sym, ap, ◌∙◌, true, false}
use Rattle.std.proofs.lemmas.Iterator.{cases_from_all, YieldsList-from_slice}
use Rattle.definitions.specs.Scan.{all}
use Rattle.definitions.specs.Geometry.{center}
use Rattle.definitions.specs.RegionRecord.{corners}
use Rattle.context.specs.Records.{record_of}
use Rattle.geometry.specs.Forms.{point_form}
use Rattle.mouth_regions.specs.Near.{corner_near, region_near}
use Rattle.mouth_regions.proofs.Nearness.{near_is, Answer, corners-asked}
use Rattle.mouth_regions.proofs.near.region_near.Goals as goal

pub returns : goal.returns
returns c =
    let R = record_of c.args.region in
    let s = c.args.proposal in
    let b = c.is_broad-broad.result in
    let p = point_form c.center_of-ramp.result in
    let q = point_form c.center_of-mouth.result in
    λ C S hm ha h.
    corners-asked b p q c.center_of-ramp.ensures c.center_of-mouth.ensures c.requires.1.pixels c.requires.0.pixels c.corners.result R c.corners.ensures h c.all.result
    (cases_from_all _ _ c.all.result (Answer b p q true) (Answer b p q false) c.all.ensures.ran (YieldsList-from_slice _ cc) (λ x f k. search (rules, tests)) (λ x f k. search (rules, tests)))
    ∙ sym (near_is C s.mouth s.ramp b R ∙ (λ i. all (corner_near (center (S.at s.ramp ha i).endpoints) (center (S.at s.mouth hm i).endpoints) b) (corners R)))
    ∙ ap (λ b. region_near C s.mouth s.ramp b R) c.is_broad-broad.ensures
