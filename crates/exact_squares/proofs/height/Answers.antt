-- `height` meets its contract: the size of the side value, which is within that of a map's cross products. Assumes nothing.
use mathlib.Core.Path.{◌≡◌, ap, ◌∙◌}
use native.Mathlib.Nat.{le_trans, le_of_eq}
use lib.IntN.{nat_abs}
use Rattle.definitions.specs.Spans.{cross}
use Rattle.separations.proofs.PlaneLaws.Sizes.{cross-le}
use Rattle.span_geometry.specs.Shapes.{point_of}
use Rattle.span_geometry.proofs.Signed.{given}
use Rattle.geometry.proofs.Ends.{pixel}
use Rattle.exact_squares.proofs.height.Goals as goal

pub returns : goal.returns
returns c =
    let z = cross (point_of c.args.s.a) (point_of c.args.s.b) (point_of c.args.p) in
    let e : c.unsigned_abs.result ≡ nat_abs z = c.unsigned_abs.ensures.value ∙ ap nat_abs (given c.cross.type_inv c.cross.ensures) in
    (e, le_trans (le_of_eq e) (cross-le (pixel c.requires.1) (pixel c.requires.2) (pixel c.requires.0)))
