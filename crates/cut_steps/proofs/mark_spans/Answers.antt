-- `mark_spans` meets its contract. The loop's invariant: the cut steps of the spans passed are marked. Assumes nothing.
use Prim.Native.Nat.{◌/◌, ◌<◌}
use native.Mathlib.Omega.{arith}
use mathlib.Core.Path.{◌≡◌}
use lib.ListN.{length}
use Rattle.definitions.specs.Limits.{numbers_per_span}
use Rattle.definitions.specs.Scan.{gather}
use Rattle.cut_steps.specs.MarkVisits.{marked_none}
use Rattle.cut_steps.proofs.Chunks.{chunk-asked, chunk-made}
use Rattle.cut_steps.proofs.Spans.{span_at-asked, span-asked, spans_more, spans-done}
use Rattle.cut_steps.proofs.mark_spans.Goals as goal

pub loop-span-init : goal.loop-span-init
unfolding gather
loop-span-init c = marked_none

pub span_of-requires : goal.span_of-requires
span_of-requires c =
    let few : c.loop-span.span-index < length c.args.spans.now / numbers_per_span = omega (arith, c.loop-span-test.true, c.as_chunks.ensures.front_len) in
    chunk-asked c.args.spans.now c.as_chunks.ensures.front few (span_at-asked c.requires.checked few)

pub mark_span-requires-clause-asked : goal.mark_span-requires-clause-asked
mark_span-requires-clause-asked c =
    let few : c.loop-span.span-index < length c.args.spans.now / numbers_per_span = omega (arith, c.loop-span-test.true, c.as_chunks.ensures.front_len) in
    span-asked c.args.grid c.requires.checked few (chunk-made c.args.spans.now c.as_chunks.ensures.front few c.span_of.ensures)

pub loop-span-preserved : goal.loop-span-preserved
loop-span-preserved c =
    let few : c.loop-span.span-index < length c.args.spans.now / numbers_per_span = omega (arith, c.loop-span-test.true, c.as_chunks.ensures.front_len) in
    spans_more c.requires.checked few (chunk-made c.args.spans.now c.as_chunks.ensures.front few c.span_of.ensures) c.loop-span.invariant c.mark_span.ensures

pub returns : goal.returns
returns c =
    let p = c.requires.sizes in
    let all : c.loop-span.span-index ≡ length c.args.spans.now / numbers_per_span = omega (arith, c.loop-span.auto.span-index-end, c.loop-span-test.false, c.as_chunks.ensures.front_len) in
    spans-done c.args.spans.now p.0 p.1 c.loop-span.span-index c.loop-span.invariant all
