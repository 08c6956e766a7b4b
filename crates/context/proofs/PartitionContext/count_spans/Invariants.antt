-- `PartitionContext::count_spans` meets its contract. The invariant: the list has counted the spans passed. Assumes nothing.
use mathlib.Core.Path.{◌≡◌}
use Rattle.context.specs.Packed.{span_pairs, count_spans}
use Rattle.context.proofs.PartitionContext.count_spans.Given as goal

abbrev pub invariant-loop-i : goal.invariant-loop-i
invariant-loop-i l = l.counts ≡ count_spans (span_pairs l.self.pairs.now l.self.starts.now) l.i l.initial.counts
