-- `checks::spans::spans_fault` meets its contract. The loop's invariant: no span below i is refused. Assumes nothing.
use mathlib.Core.Path.{◌≡◌}
use Rattle.std.specs.Prelude.{None}
use Rattle.definitions.specs.Refusals.{first_below_lem}
use Rattle.checks.specs.Contract.{span_refusal}
use Rattle.checks.proofs.spans.spans_fault.Given as goal

abbrev pub invariant-loop-i : goal.invariant-loop-i
invariant-loop-i l = first_below_lem l.i (span_refusal l.width l.height l.fn.spans) ≡ None
