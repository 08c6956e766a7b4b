-- `call_partition::checked::checks_before` meets its contract: the refusals of its parts, one after the other. Assumes nothing.
use Rattle.std.proofs.Common.{rules, sym, ◌≡◌, ◌∙◌}
use Rattle.std.specs.Prelude.{Some}
use Rattle.refusals.specs.Refusals.{refusal_in, refusal_of}
use Rattle.refusals.proofs.Steps.{here, next}
use Rattle.call_partition.specs.Early.{early_refusal}
use Rattle.call_partition.proofs.SizesPassed.{sizes-fit}
use Rattle.call_partition.proofs.checked.checks_before.Goals as goal

pub returns-in_err-pass-clause-refused : goal.returns-in_err-pass-clause-refused
unfolding early_refusal
returns-in_err-pass-clause-refused c =
    let r : refusal_in c.from_residual.result ≡ Some (refusal_of c.in_err-pass.field-0.0) = search rules in
    r ∙ here _ (sym c.in_err-pass.ensures.refused)

pub check_entries_and_room-requires-clause-sides : goal.check_entries_and_room-requires-clause-sides
check_entries_and_room-requires-clause-sides c = let s = sizes-fit c.args.pass (sym c.in_ok-pass.ensures.refused) in (s.narrow, s.short)

pub check_entries_and_room-requires-clause-counted : goal.check_entries_and_room-requires-clause-counted
check_entries_and_room-requires-clause-counted c = (sizes-fit c.args.pass (sym c.in_ok-pass.ensures.refused)).counted

pub returns-in_err-check_entries_and_room-clause-refused : goal.returns-in_err-check_entries_and_room-clause-refused
unfolding early_refusal
returns-in_err-check_entries_and_room-clause-refused c =
    let r : refusal_in c.from_residual-in_err-check_entries_and_room.result ≡ Some (refusal_of c.in_err-check_entries_and_room.field-0.0) = search rules in
    r ∙ next (sym c.in_ok-pass.ensures.refused) c.in_err-check_entries_and_room.ensures

pub returns-clause-refused : goal.returns-clause-refused
unfolding early_refusal
returns-clause-refused c = next (sym c.in_ok-pass.ensures.refused) c.in_ok-check_entries_and_room.ensures
