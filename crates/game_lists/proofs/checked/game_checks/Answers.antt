-- `game_lists::checked::game_checks` meets its contract: the refusals of its parts, one after the other. Assumes nothing.
use Rattle.std.proofs.Common.{rules, sym, ◌≡◌, ◌∙◌, ℕ}
use Rattle.std.specs.Prelude.{None, Some}
use Rattle.refusals.specs.Refusals.{refusal_in, refusal_of}
use Rattle.refusals.proofs.Steps.{here, next, searched}
use Rattle.call_partition.specs.declared.asked.Asked.{Asked}
use Rattle.call_partition.specs.Asking.{of_asked}
use Rattle.call_partition.specs.Early.{sizes_refusal, lists_refusal, early_refusal}
use Rattle.call_partition.proofs.SizesPassed.{early-behind, sizes-fit}
use Rattle.game_lists.specs.Early.{game_early}
use Rattle.game_lists.proofs.checked.game_checks.Goals as goal

module _ (pass : ℕ) (x : Asked) (labels masks queue tallies output : ℕ) where
  behind : of_asked (sizes_refusal pass) x ≡ None
      → of_asked lists_refusal x labels masks queue tallies output ≡ of_asked (early_refusal pass) x labels masks queue tallies output
  behind e = early-behind pass x.width x.height x.cells.now x.spans.now x.boundaries.now x.anchors.now labels masks queue tallies output e

pub returns-in_err-pass-clause-refused : goal.returns-in_err-pass-clause-refused
unfolding game_early
returns-in_err-pass-clause-refused c =
    let r : refusal_in c.from_residual.result ≡ Some (refusal_of c.in_err-pass.field-0.0) = search rules in
    r ∙ here _ (sym c.in_err-pass.ensures.refused)

pub returns-in_err-no_fault-clause-refused : goal.returns-in_err-no_fault-clause-refused
unfolding game_early
returns-in_err-no_fault-clause-refused c =
    let r : refusal_in c.from_residual-in_err-no_fault.result ≡ Some (refusal_of c.in_err-no_fault.field-0.0) = search rules in
    r ∙ next (sym c.in_ok-pass.ensures.refused) (here _ (searched 16 c.lists_fault.ensures c.in_err-no_fault.ensures))

pub check_entries_and_room-requires-clause-sides : goal.check_entries_and_room-requires-clause-sides
check_entries_and_room-requires-clause-sides c = let s = sizes-fit c.args.pass (sym c.in_ok-pass.ensures.refused) in (s.narrow, s.short)

pub check_entries_and_room-requires-clause-counted : goal.check_entries_and_room-requires-clause-counted
check_entries_and_room-requires-clause-counted c = (sizes-fit c.args.pass (sym c.in_ok-pass.ensures.refused)).counted

pub returns-in_err-check_entries_and_room-clause-refused : goal.returns-in_err-check_entries_and_room-clause-refused
unfolding game_early
returns-in_err-check_entries_and_room-clause-refused c =
    let r : refusal_in c.from_residual-in_err-check_entries_and_room.result ≡ Some (refusal_of c.in_err-check_entries_and_room.field-0.0) = search rules in
    let a = c.args in
    let sizes = sym c.in_ok-pass.ensures.refused in
    r ∙ next sizes (next (searched 16 c.lists_fault.ensures c.in_ok-no_fault.ensures) (here _ (sym (c.in_err-check_entries_and_room.ensures ∙ behind a.pass a.asked a.labels a.masks a.queue a.tallies a.output sizes))))

pub returns-in_err-ensure-clause-refused : goal.returns-in_err-ensure-clause-refused
unfolding game_early
returns-in_err-ensure-clause-refused c =
    let r : refusal_in c.from_residual-in_err-ensure.result ≡ Some (refusal_of c.in_err-ensure.field-0.0) = search rules in
    let a = c.args in
    let sizes = sym c.in_ok-pass.ensures.refused in
    r ∙ next sizes (next (searched 16 c.lists_fault.ensures c.in_ok-no_fault.ensures) (next (sym (c.in_ok-check_entries_and_room.ensures ∙ behind a.pass a.asked a.labels a.masks a.queue a.tallies a.output sizes)) c.in_err-ensure.ensures))

pub returns-clause-refused : goal.returns-clause-refused
unfolding game_early
returns-clause-refused c =
    let a = c.args in
    let sizes = sym c.in_ok-pass.ensures.refused in
    next sizes (next (searched 16 c.lists_fault.ensures c.in_ok-no_fault.ensures) (next (sym (c.in_ok-check_entries_and_room.ensures ∙ behind a.pass a.asked a.labels a.masks a.queue a.tallies a.output sizes)) c.in_ok-ensure.ensures))
