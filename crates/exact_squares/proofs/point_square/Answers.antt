-- `point_square` meets its contract: the definition's two tests, and its three fractions. Assumes nothing.
use Prim.Native.Nat.{zero-le}
use native.Mathlib.Nat.{le_trans, lt_of_le_of_lt, mul-le-mul}
use lib.Dec.{lit≤, lit<}
use Rattle.span_geometry.specs.Shapes.{point_of}
use Rattle.geometry.specs.Forms.{segment_form}
use Rattle.exact_squares.proofs.Squares.{square-start, square-end, square-between}
use Rattle.exact_squares.proofs.point_square.Goals as goal

pub returns-then-k-eq0 : goal.returns-then-k-eq0
returns-then-k-eq0 c =
    let s = c.args in
    let e = c.end_square.ensures in (
      square-start (point_of s.p) (segment_form s.s) c.along-k.ensures e.0 c.if-k-eq0.true,
      record { num-le = le_trans e.1 (lit≤ tt); den-le = lit≤ tt; den_some = lit< tt },
    )

pub returns-then-n-k : goal.returns-then-n-k
returns-then-n-k c =
    let given = c.args in
    let square = c.end_square-then-n-k.ensures in (
      square-end (point_of given.p) (segment_form given.s) c.along-k.ensures square.0 c.if-k-eq0.false c.end_square-n.ensures.0 c.if-n-k.true,
      record { num-le = le_trans square.1 (lit≤ tt); den-le = lit≤ tt; den_some = lit< tt },
    )

pub returns : goal.returns
returns c =
    let given = c.args in
    let height = c.height-c.ensures in
    let length = c.end_square-n.ensures in (
      square-between (point_of given.p) (segment_form given.s) c.along-k.ensures height.0 c.if-k-eq0.false length.0 c.if-n-k.false,
      record {
        num-le = le_trans (mul-le-mul height.1 height.1) (lit≤ tt);
        den-le = length.1;
        den_some = lt_of_le_of_lt zero-le c.if-n-k.false;
      },
    )
