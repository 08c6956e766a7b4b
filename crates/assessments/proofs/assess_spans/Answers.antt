-- `assessments::assess_spans` meets its contract. The loop's invariant (`Before`): the rows and tallies of the spans before s are in their lists. Assumes nothing.
use Prim.Native.Nat.{◌+◌, ◌*◌, ◌/◌, ◌≤◌, ◌<◌}
use mathlib.Core.Path.{◌≡◌, sym, ap}
use native.Mathlib.Omega.{arith}
use lib.ListN.{length}
use Rattle.definitions.specs.Limits.{numbers_per_span}
use Rattle.grid_steps.specs.Walk.{grid_of}
use Rattle.cut_steps.specs.CutSteps.{cut_span}
use Rattle.cut_steps.proofs.Chunks.{chunk-asked, chunk-made}
use Rattle.cut_steps.proofs.Spans.{span_at-asked, span-asked}
use Rattle.cut_steps.proofs.Shown.{shown_as}
use Rattle.assessments.proofs.Spans.{before_first, before_next, answered}
use Rattle.assessments.proofs.assess_spans.Goals as goal

pub loop-s-init : goal.loop-s-init
loop-s-init c = before_first

pub span_of-g-requires : goal.span_of-g-requires
span_of-g-requires c =
    let few : c.loop-s.s < length c.args.spans.now / numbers_per_span = omega (arith, c.loop-s-test.true, c.as_chunks.ensures.front_len) in
    chunk-asked c.args.spans.now c.as_chunks.ensures.front few (span_at-asked c.requires.checked few)

pub assess_span-a-requires : goal.assess_span-a-requires
assess_span-a-requires c =
    let few : c.loop-s.s < length c.args.spans.now / numbers_per_span = omega (arith, c.loop-s-test.true, c.as_chunks.ensures.front_len) in
    let G = chunk-made c.args.spans.now c.as_chunks.ensures.front few c.span_of-g.ensures in
    let shown = shown_as (ap (cut_span (grid_of c.args.grid.width c.args.grid.height c.args.grid.cells.now)) (sym G.segment)) (c.requires.asked.shown c.loop-s.s few) in
    record { asked = span-asked c.args.grid c.requires.checked few G; labels_long = c.requires.asked.labels_long; shown = shown; first_within = c.loop-s.invariant.counted }

pub loop-s-preserved : goal.loop-s-preserved
loop-s-preserved c =
    let few : c.loop-s.s < length c.args.spans.now / numbers_per_span = omega (arith, c.loop-s-test.true, c.as_chunks.ensures.front_len) in
    let room : 2 * (c.loop-s.s + 1) ≤ length c.args.tallies.now = omega (arith, few, c.requires.asked.tallies_long) in
    before_next c.loop-s.invariant (chunk-made c.args.spans.now c.as_chunks.ensures.front few c.span_of-g.ensures) c.assess_span-a.ensures.still_counting c.assess_span-a.ensures.assessed room

pub returns : goal.returns
returns c =
    let all : c.loop-s.s ≡ length c.args.spans.now / numbers_per_span = omega (arith, c.loop-s.auto.s-end, c.loop-s-test.false, c.as_chunks.ensures.front_len) in
    rw c.then_some.ensures (answered c.loop-s.invariant all)
