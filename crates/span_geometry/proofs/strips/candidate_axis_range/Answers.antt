-- `strips::candidate_axis_range` meets its contract: first and last are the definition's. Assumes nothing.
use Prim.Native.Nat.{◌/◌}
use native.Mathlib.Omega.{arith}
use Rattle.definitions.specs.Spans.{range_inclusive, candidate_axis_range}
use Rattle.span_geometry.proofs.strips.candidate_axis_range.Goals as goal

pub returns : goal.returns
unfolding candidate_axis_range
returns c =
    record {
      numbers = λ i. range_inclusive (c.saturating_sub.ensures i / 8) (c.min.ensures i);
      inside = omega (arith, c.min.ensures);
    }
