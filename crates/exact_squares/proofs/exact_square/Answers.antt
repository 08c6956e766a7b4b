-- `exact_square` meets its contract: the test, and the least of the four fractions. Assumes nothing.
use mathlib.Core.Path.{◌∙◌}
use Prim.Native.Nat.{zero-le}
use lib.Dec.{lit≤, lit<}
use Rattle.separations.specs.Distance.{lesser}
use Rattle.geometry.specs.Forms.{segment_form}
use Rattle.exact_squares.proofs.Squares.{by_test}
use Rattle.exact_squares.proofs.exact_square.Goals as goal

pub returns-then-meet : goal.returns-then-meet
returns-then-meet c = (
  by_test (segment_form c.args.left) (segment_form c.args.right) c.requires.2 c.if-meet.true,
  record { num-le = zero-le; den-le = lit≤ tt; den_some = lit< tt },
)

pub returns : goal.returns
returns c =
    let two = c.lesser.ensures.0 ∙ (λ i. lesser (c.point_square-first.ensures.0 i) (c.point_square-second.ensures.0 i)) in
    let three = c.lesser-2.ensures.0 ∙ (λ i. lesser (two i) (c.point_square-third.ensures.0 i)) in (
      c.lesser-3.ensures.0
          ∙ (λ i. lesser (three i) (c.point_square-fourth.ensures.0 i))
          ∙ by_test (segment_form c.args.left) (segment_form c.args.right) c.requires.2 c.if-meet.false,
      c.lesser-3.ensures.1,
    )
