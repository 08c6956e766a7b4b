-- `SpanGeometry::cuts` meets its contract: the tests are the definition's, at the centres of the two cells. Assumes nothing.
use mathlib.Core.Path.{◌≡◌, sym, ◌∙◌}
use mathlib.Core.Bool.{Bool, not, ◌&&◌, beq}
use lib.Signed.{non_neg}
use Rattle.definitions.specs.Grid.{Position, at, Segment}
use Rattle.definitions.specs.Spans.{cross, cell_center, segments_intersect, cuts}
use Rattle.span_geometry.specs.Shapes.{point_of, segment_of}
use Rattle.span_geometry.proofs.Signed.{given}
use Rattle.span_geometry.proofs.SpanGeometry.cuts.Goals as goal

pub returns-then-not_negative : goal.returns-then-not_negative
unfolding cuts
returns-then-not_negative c =
    let S : Segment = segment_of c.args.self in
    let P : Position = at c.args.from_x c.args.from_y in
    let Q : Position = at c.args.to_x c.args.to_y in
    let same_side : Bool = beq (non_neg (cross S.a S.b (cell_center P))) (non_neg (cross S.a S.b (cell_center Q))) in
    let from_is : point_of c.cell_center-from.result ≡ cell_center P = c.cell_center-from.ensures.0 in
    let to_is : point_of c.cell_center-to.result ≡ cell_center Q = c.cell_center-to.ensures.0 in
    let side_is : beq c.not_negative.result c.not_negative-2.result ≡ same_side = λ i.
    beq
    ((c.not_negative.ensures ∙ (λ j. non_neg (given c.cross-from_side.type_inv (c.cross-from_side.ensures ∙ (λ k. cross S.a S.b (from_is k))) j))) i)
    ((c.not_negative-2.ensures ∙ (λ j. non_neg (given c.cross-to_side.type_inv (c.cross-to_side.ensures ∙ (λ k. cross S.a S.b (to_is k))) j))) i) in
    λ i. not ((sym c.if-not_negative.true ∙ side_is) i) && segments_intersect S.a S.b (cell_center P) (cell_center Q)

pub returns : goal.returns
unfolding cuts
returns c =
    let S : Segment = segment_of c.args.self in
    let P : Position = at c.args.from_x c.args.from_y in
    let Q : Position = at c.args.to_x c.args.to_y in
    let same_side : Bool = beq (non_neg (cross S.a S.b (cell_center P))) (non_neg (cross S.a S.b (cell_center Q))) in
    let from_is : point_of c.cell_center-from.result ≡ cell_center P = c.cell_center-from.ensures.0 in
    let to_is : point_of c.cell_center-to.result ≡ cell_center Q = c.cell_center-to.ensures.0 in
    let side_is : beq c.not_negative.result c.not_negative-2.result ≡ same_side = λ i.
    beq
    ((c.not_negative.ensures ∙ (λ j. non_neg (given c.cross-from_side.type_inv (c.cross-from_side.ensures ∙ (λ k. cross S.a S.b (from_is k))) j))) i)
    ((c.not_negative-2.ensures ∙ (λ j. non_neg (given c.cross-to_side.type_inv (c.cross-to_side.ensures ∙ (λ k. cross S.a S.b (to_is k))) j))) i) in
    λ i.
    not ((sym c.if-not_negative.false ∙ side_is) i)
    && (c.segments_intersect.ensures ∙ (λ j. segments_intersect S.a S.b (from_is j) (to_is j))) i
