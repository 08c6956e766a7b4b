-- `near::corner_near` meets its contract, from the two tests. Assumes nothing.
use Rattle.geometry.specs.Forms.{point_form}
use Rattle.mouth_regions.proofs.Nearness.{near-ramp, near-mouth, near_none}
use Rattle.mouth_regions.proofs.near.corner_near.Goals as goal

pub returns-then-within_distance : goal.returns-then-within_distance
returns-then-within_distance c =
    let s = c.args in
    λ hr hm. near-ramp (point_form s.ramp) (point_form s.mouth) (point_form s.corner) s.broad (c.within_distance.ensures hr) c.if-within_distance.true

pub returns-then-broad : goal.returns-then-broad
returns-then-broad c =
    let s = c.args in
    λ hr hm.
    near-mouth (point_form s.ramp) (point_form s.mouth) (point_form s.corner) s.broad (c.within_distance.ensures hr) c.if-within_distance.false c.if-broad.true
    (c.within_distance-then-broad.ensures hm)

pub returns-else-broad : goal.returns-else-broad
returns-else-broad c =
    let s = c.args in
    λ hr hm. near_none (point_form s.ramp) (point_form s.mouth) (point_form s.corner) s.broad (c.within_distance.ensures hr) c.if-within_distance.false c.if-broad.false
