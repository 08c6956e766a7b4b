-- `ramp_geometry::segment_distance` meets its contract: the test and the four distances are the definition's. Assumes nothing.
use mathlib.Core.Path.{◌≡◌, sym, ap, ◌∙◌}
use mathlib.Core.Bool.{Bool, cond}
use lib.Ieee.{Float}
use Rattle.definitions.specs.Grid.{Segment}
use Rattle.definitions.specs.Geometry.{float, point, point_segment_distance}
use Rattle.definitions.specs.RampGeometry.{fmin, intersects, segment_distance}
use Rattle.geometry.specs.Forms.{segment_form}
use Rattle.geometry.proofs.Literals.{zero_is}
use Rattle.geometry.proofs.ramp_geometry.segment_distance.Goals as goal

-- the least of the four distances
abbrev least_of : Segment → Segment → Float
least_of s t =
    fmin
    (fmin
    (fmin (point_segment_distance (point s.a) (point t.a) (point t.b)) (point_segment_distance (point s.b) (point t.a) (point t.b)))
    (point_segment_distance (point t.a) (point s.a) (point s.b)))
    (point_segment_distance (point t.b) (point s.a) (point s.b))

-- r is what the last `fmin` answers
least : {p q u v a b c d m n r : Float} → p ≡ a → q ≡ b → u ≡ c → v ≡ d → m ≡ fmin p q → n ≡ fmin m u → r ≡ fmin n v → r ≡ fmin (fmin (fmin a b) c) d
least {p} {q} {u} {v} {a} {b} {c} {d} {m} {n} e f g h k l o = o ∙ (λ i. fmin (three i) (h i))
  where
    two : m ≡ fmin a b
    two = k ∙ (λ i. fmin (e i) (f i))

    three : n ≡ fmin (fmin a b) c
    three = l ∙ (λ i. fmin (two i) (g i))

by_test : (s t : Segment) {b m : Bool} → m ≡ intersects s t → m ≡ b → cond b (float 0) (least_of s t) ≡ segment_distance s t
unfolding segment_distance
by_test s t e h = ap (λ b. cond b (float 0) (least_of s t)) (sym h ∙ e)

pub returns-then-intersects : goal.returns-then-intersects
returns-then-intersects c =
    let start = c.args in
    zero_is ∙ by_test (segment_form start.left) (segment_form start.right) c.intersects.ensures c.if-intersects.true

pub returns : goal.returns
returns c =
    let start = c.args in
    least c.endpoint_distance-first.ensures c.endpoint_distance-second.ensures c.endpoint_distance-third.ensures
    c.endpoint_distance-fourth.ensures c.fmin.ensures c.fmin-2.ensures c.fmin-3.ensures
    ∙ by_test (segment_form start.left) (segment_form start.right) c.intersects.ensures c.if-intersects.false
