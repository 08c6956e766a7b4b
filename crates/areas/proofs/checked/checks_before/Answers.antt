-- `areas::checked::checks_before` meets its contract: each test is a check's own, and where one refuses, those before it did not. Assumes nothing.
use Rattle.std.proofs.Common.{rules, sym, ap, ◌≡◌, ◌∙◌, ℕ, ◌*◌, ◌/◌, length, Bool}
use Rattle.std.specs.Prelude.{Option, None, Some, eqb}
use borrow.Author.Tests.{eqb-true}
use Rattle.definitions.specs.Limits.{numbers_per_span}
use Rattle.definitions.specs.Refusals.{Refusal, unless, partition_room}
use Rattle.definitions.specs.Verdict.{refusal}
use Rattle.refusals.specs.Refusals.{refusal_in, refusal_of}
use Rattle.refusals.proofs.Steps.{here, next, ensured, holds}
use Rattle.areas.specs.Contract.{early_refusal}
use Rattle.areas.proofs.checked.checks_before.Goals as goal

-- the cells are as many as the sides say
room-counted : (m n s l k q t : ℕ) {r : Bool} {o : Option Refusal} → r ≡ eqb m n → None ≡ refusal 2 (unless r) → o ≡ refusal 10 (unless (partition_room m s l k q t)) → o ≡ refusal 10 (unless (partition_room n s l k q t))
room-counted m n s l k q t {r} e h p = p ∙ ap (λ c. refusal 10 (unless (partition_room c s l k q t))) (eqb-true m n (sym e ∙ holds 2 r h))

pub returns-in_err-ensure : goal.returns-in_err-ensure
unfolding early_refusal
returns-in_err-ensure c =
    let r : refusal_in c.from_residual.result ≡ Some (refusal_of c.in_err-ensure.field-0.0) = search rules in
    r ∙ here _ (ensured 1 c.sides_fit.ensures c.in_err-ensure.ensures)

pub returns-in_err-ensure-2 : goal.returns-in_err-ensure-2
unfolding early_refusal
returns-in_err-ensure-2 c =
    let r : refusal_in c.from_residual-in_err-ensure-2.result ≡ Some (refusal_of c.in_err-ensure-2.field-0.0) = search rules in
    r ∙ next (ensured 1 c.sides_fit.ensures c.in_ok-ensure.ensures) (here _ (ensured 2 c.cells_fit.ensures c.in_err-ensure-2.ensures))

pub returns-in_err-ensure-3 : goal.returns-in_err-ensure-3
unfolding early_refusal
returns-in_err-ensure-3 c =
    let r : refusal_in c.from_residual-in_err-ensure-3.result ≡ Some (refusal_of c.in_err-ensure-3.field-0.0) = search rules in
    r ∙ next (ensured 1 c.sides_fit.ensures c.in_ok-ensure.ensures) (next (ensured 2 c.cells_fit.ensures c.in_ok-ensure-2.ensures) (here _ (ensured 3 c.is_whole.ensures c.in_err-ensure-3.ensures)))

pub returns-in_err-spans_fault : goal.returns-in_err-spans_fault
unfolding early_refusal
returns-in_err-spans_fault c =
    let r : refusal_in c.from_residual-in_err-spans_fault.result ≡ Some (refusal_of c.in_err-spans_fault.field-0.0) = search rules in
    r ∙ next (ensured 1 c.sides_fit.ensures c.in_ok-ensure.ensures) (next (ensured 2 c.cells_fit.ensures c.in_ok-ensure-2.ensures) (next (ensured 3 c.is_whole.ensures c.in_ok-ensure-3.ensures) (here _ (sym c.in_err-spans_fault.ensures))))

pub returns : goal.returns
unfolding early_refusal
returns c =
    let a = c.args in
    let e : refusal_in c.ensure-4.result ≡ refusal 10 (unless (partition_room (length a.cells.now) (length a.spans.now / numbers_per_span) a.labels a.masks a.queue a.tallies)) = sym (ensured 10 c.partition_has_room-room.ensures c.ensure-4.ensures) in
    next (ensured 1 c.sides_fit.ensures c.in_ok-ensure.ensures)
    (next (ensured 2 c.cells_fit.ensures c.in_ok-ensure-2.ensures)
    (next (ensured 3 c.is_whole.ensures c.in_ok-ensure-3.ensures)
    (next (sym c.in_ok-spans_fault.ensures)
    (room-counted (length a.cells.now) (a.width * a.height) (length a.spans.now / numbers_per_span) a.labels a.masks a.queue a.tallies c.cells_fit.ensures c.in_ok-ensure-2.ensures e))))
