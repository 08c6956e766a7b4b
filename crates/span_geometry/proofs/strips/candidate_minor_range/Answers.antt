-- `strips::candidate_minor_range` meets its contract: first and last are the definition's. Assumes nothing.
use native.Mathlib.Omega.{arith}
use Rattle.definitions.specs.Spans.{range_inclusive, candidate_minor_range}
use Rattle.span_geometry.proofs.strips.candidate_minor_range.Goals as goal

pub returns : goal.returns
unfolding candidate_minor_range
returns c =
    record {
      numbers = λ i. range_inclusive (c.saturating_sub.ensures i) (c.min.ensures i);
      inside = omega (arith, c.min.ensures);
    }
