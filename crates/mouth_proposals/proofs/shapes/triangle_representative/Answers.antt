-- `shapes::triangle_representative` meets its contract: two rows each, or no triangle. Assumes nothing.
use mathlib.Core.Path.{subst⁻¹}
use Rattle.mouth_proposals.specs.Rows.{rows_of, TriangleOf}
use Rattle.mouth_proposals.proofs.ShapeTests.{no_mouth-triangle, no_ramp-triangle}
use Rattle.mouth_proposals.proofs.shapes.triangle_representative.Goals as goal

pub returns-in_err-mouth : goal.returns-in_err-mouth
returns-in_err-mouth c =
    let m = rows_of c.args.context.pairs.now c.args.context.starts.now c.args.m in
    let a = rows_of c.args.context.pairs.now c.args.context.starts.now c.args.a in
    subst⁻¹ (TriangleOf m a) c.from_residual.ensures (no_mouth-triangle m a c.in_err-mouth.ensures)

pub returns-in_err-ramp : goal.returns-in_err-ramp
returns-in_err-ramp c =
    let m = rows_of c.args.context.pairs.now c.args.context.starts.now c.args.m in
    let a = rows_of c.args.context.pairs.now c.args.context.starts.now c.args.a in
    subst⁻¹ (TriangleOf m a) c.from_residual-in_err-ramp.ensures (no_ramp-triangle m a c.in_err-ramp.ensures)
