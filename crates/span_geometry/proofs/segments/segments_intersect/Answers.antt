-- `segments::segments_intersect` meets its contract: its five tests are those of the definition, each as its function ensures; where the first holds the others do not matter. Assumes nothing.
use mathlib.Core.Path.{◌≡◌, sym, ◌∙◌}
use mathlib.Core.Bool.{Bool, ◌&&◌, ◌||◌}
use mir.Syntax.{w64}
use mir.Val.{to_z, of_z}
use Rattle.definitions.specs.Grid.{Position}
use Rattle.definitions.specs.Spans.{cross, is_zero, strictly_opposite, on_segment, segments_intersect}
use Rattle.span_geometry.specs.Shapes.{point_of}
use Rattle.span_geometry.proofs.Signed.{given}
use Rattle.span_geometry.proofs.segments.segments_intersect.Goals as goal

pub returns-then-strictly_opposite : goal.returns-then-strictly_opposite
unfolding segments_intersect
returns-then-strictly_opposite c =
    let A : Position = point_of c.args.s.a in
    let B : Position = point_of c.args.s.b in
    let C : Position = point_of c.args.t.a in
    let D : Position = point_of c.args.t.b in
    let abc : to_z w64 (of_z w64 c.cross-abc.result) ≡ cross A B C = given c.cross-abc.type_inv c.cross-abc.ensures in
    let abd : to_z w64 (of_z w64 c.cross-abd.result) ≡ cross A B D = given c.cross-abd.type_inv c.cross-abd.ensures in
    let cda : to_z w64 (of_z w64 c.cross-cda.result) ≡ cross C D A = given c.cross-cda.type_inv c.cross-cda.ensures in
    let cdb : to_z w64 (of_z w64 c.cross-cdb.result) ≡ cross C D B = given c.cross-cdb.type_inv c.cross-cdb.ensures in
    let crossing : (c.strictly_opposite.result && c.strictly_opposite-2.result) ≡ (strictly_opposite (cross A B C) (cross A B D) && strictly_opposite (cross C D A) (cross C D B)) = λ i.
    (c.strictly_opposite.ensures ∙ (λ j. strictly_opposite (abc j) (abd j))) i && (c.strictly_opposite-2.ensures ∙ (λ j. strictly_opposite (cda j) (cdb j))) i in
    let answer : Bool → Bool = λ first. first || (is_zero (cross A B C) && on_segment A B C) || (is_zero (cross A B D) && on_segment A B D)
    || (is_zero (cross C D A) && on_segment C D A) || (is_zero (cross C D B) && on_segment C D B) in
    λ i. answer ((sym c.if-strictly_opposite.true ∙ crossing) i)

pub returns : goal.returns
unfolding segments_intersect
returns c =
    let A : Position = point_of c.args.s.a in
    let B : Position = point_of c.args.s.b in
    let C : Position = point_of c.args.t.a in
    let D : Position = point_of c.args.t.b in
    let abc : to_z w64 (of_z w64 c.cross-abc.result) ≡ cross A B C = given c.cross-abc.type_inv c.cross-abc.ensures in
    let abd : to_z w64 (of_z w64 c.cross-abd.result) ≡ cross A B D = given c.cross-abd.type_inv c.cross-abd.ensures in
    let cda : to_z w64 (of_z w64 c.cross-cda.result) ≡ cross C D A = given c.cross-cda.type_inv c.cross-cda.ensures in
    let cdb : to_z w64 (of_z w64 c.cross-cdb.result) ≡ cross C D B = given c.cross-cdb.type_inv c.cross-cdb.ensures in
    let crossing : (c.strictly_opposite.result && c.strictly_opposite-2.result) ≡ (strictly_opposite (cross A B C) (cross A B D) && strictly_opposite (cross C D A) (cross C D B)) = λ i.
    (c.strictly_opposite.ensures ∙ (λ j. strictly_opposite (abc j) (abd j))) i && (c.strictly_opposite-2.ensures ∙ (λ j. strictly_opposite (cda j) (cdb j))) i in
    let answer : Bool → Bool = λ first. first || (is_zero (cross A B C) && on_segment A B C) || (is_zero (cross A B D) && on_segment A B D)
    || (is_zero (cross C D A) && on_segment C D A) || (is_zero (cross C D B) && on_segment C D B) in
    (λ i.
    (c.touches.ensures ∙ (λ j. is_zero (abc j) && on_segment A B C)) i
    || (c.touches-2.ensures ∙ (λ j. is_zero (abd j) && on_segment A B D)) i
    || (c.touches-3.ensures ∙ (λ j. is_zero (cda j) && on_segment C D A)) i
    || (c.touches-4.ensures ∙ (λ j. is_zero (cdb j) && on_segment C D B)) i)
    ∙ (λ i. answer ((sym c.if-strictly_opposite.false ∙ crossing) i))
