-- `extents::near_range` meets its contract. Assumes nothing.
use Prim.Native.Nat.{◌-◌}
use mathlib.Core.Path.{ap, ◌∙◌}
use mathlib.Core.Bool.{true, false}
use Rattle.span_geometry.specs.Shapes.{segment_of}
use Rattle.cut_steps.proofs.Beyond.{near_of}
use Rattle.cut_steps.proofs.extents.near_range.Goals as goal

pub returns-then-strip : goal.returns-then-strip
returns-then-strip c =
    near_of (segment_of c.args.g) c.args.strip c.args.k c.args.limit true c.if-strip.true c.minor_range-range.ensures c.narrowed.ensures c.requires.0.min-y (c.saturating_sub.ensures ∙ ap (λ n. n - 8) c.requires.0.max-y)

pub returns : goal.returns
returns c =
    near_of (segment_of c.args.g) c.args.strip c.args.k c.args.limit false c.if-strip.false c.minor_range-range.ensures c.narrowed-2.ensures c.requires.0.min-x c.requires.0.max-x
