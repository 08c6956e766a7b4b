-- `checks::spans::spans_fault` meets its contract. The loop's invariant: no span below i is refused. Assumes nothing.
use Rattle.std.proofs.Common.{rules, arith, sym, ap, ◌≡◌, ◌∙◌, ℕ, ◌<◌, List, length, get_or, ◌/◌}
use Rattle.std.specs.Prelude.{Option, Some}
use Rattle.std.specs.Simd.{first_chunks}
use Rattle.definitions.specs.Limits.{numbers_per_span}
use Rattle.definitions.specs.Grid.{segment_at}
use Rattle.definitions.specs.Refusals.{Refusal, spans_refusal}
use Rattle.laws.specs.ListLaws.FirstBelow.{none_below-zero, none_below_more, none_below-end, first_found}
use Rattle.checks.specs.Contract.{segment_refusal, span_refusal}
use Rattle.refusals.specs.Refusals.{refusal_in, refusal_of}
use Rattle.checks.proofs.Chunks.{span_is}
use Rattle.checks.proofs.spans.spans_fault.Goals as goal

-- what a span's own four numbers are answered is what the list is at its place
at_place : (w h : ℕ) (l : List ℕ) {chunks : List (List ℕ)} → chunks ≡ first_chunks 4 (length l / 4) l → (i : ℕ) (d : List ℕ) → i < length l / 4 → {r : Option Refusal}
    → r ≡ segment_refusal w h (segment_at (get_or chunks i d) 0) i → span_refusal w h l i ≡ r
at_place w h l e i d below k = sym (k ∙ ap (λ s. segment_refusal w h s i) (span_is l e i d below))

pub loop-i-init : goal.loop-i-init
loop-i-init c = none_below-zero _

pub returns-in_err-check_span : goal.returns-in_err-check_span
unfolding spans_refusal
returns-in_err-check_span c =
    let given = c.args in
    let at : ℕ → Option Refusal = span_refusal given.width given.height given.spans.now in
    let r : refusal_in c.from_residual.result ≡ Some (refusal_of c.in_err-check_span.field-0.0) = search rules in
    let below : c.loop-i.i < length given.spans.now / numbers_per_span = omega (arith, c.loop-i-test.true, c.as_chunks.ensures.front_len) in
    r
    ∙ sym (first_found at (length given.spans.now / numbers_per_span) c.loop-i.i _ below c.loop-i.invariant
    (at_place given.width given.height given.spans.now c.as_chunks.ensures.front c.loop-i.i _ below c.in_err-check_span.ensures))

pub loop-i-preserved : goal.loop-i-preserved
loop-i-preserved c =
    let given = c.args in
    let below : c.loop-i.i < length given.spans.now / numbers_per_span = omega (arith, c.loop-i-test.true, c.as_chunks.ensures.front_len) in
    none_below_more _ c.loop-i.i c.loop-i.invariant (at_place given.width given.height given.spans.now c.as_chunks.ensures.front c.loop-i.i _ below c.in_ok-check_span.ensures)

pub returns : goal.returns
unfolding spans_refusal
returns c =
    let given = c.args in
    let at : ℕ → Option Refusal = span_refusal given.width given.height given.spans.now in
    sym (none_below-end at (length given.spans.now / numbers_per_span) c.loop-i.i (omega (arith, c.loop-i.auto.i-end, c.as_chunks.ensures.front_len)) (omega (arith, c.loop-i-test.false, c.as_chunks.ensures.front_len)) c.loop-i.invariant)
