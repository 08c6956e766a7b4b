-- `rest_lists::checked::rest_checks` meets its contract: the refusals of its parts, one after the other. Assumes nothing.
use Rattle.std.proofs.Common.{rules, sym, ◌≡◌, ◌∙◌}
use Rattle.std.specs.Prelude.{Some}
use Rattle.refusals.specs.Refusals.{refusal_in, refusal_of}
use Rattle.refusals.proofs.Steps.{here, next, searched}
use Rattle.call_partition.proofs.SizesPassed.{sizes-of-pass, whole-fit}
use Rattle.rest_lists.specs.Early.{rest_early}
use Rattle.rest_lists.proofs.checked.rest_checks.Goals as goal

pub returns-in_err-check_whole : goal.returns-in_err-check_whole
unfolding rest_early
returns-in_err-check_whole c =
    let r : refusal_in c.from_residual.result ≡ Some (refusal_of c.in_err-check_whole.field-0.0) = search rules in
    r ∙ here _ (sym (c.in_err-check_whole.ensures ∙ sizes-of-pass 1 _ _ _ _ _ _ (search rules)))

pub returns-in_err-no_fault : goal.returns-in_err-no_fault
unfolding rest_early
returns-in_err-no_fault c =
    let r : refusal_in c.from_residual-in_err-no_fault.result ≡ Some (refusal_of c.in_err-no_fault.field-0.0) = search rules in
    r ∙ next (sym (c.in_ok-check_whole.ensures ∙ sizes-of-pass 1 _ _ _ _ _ _ (search rules))) (here _ (searched 16 c.lists_fault.ensures c.in_err-no_fault.ensures))

pub check_entries_and_room-requires-clause-sides : goal.check_entries_and_room-requires-clause-sides
check_entries_and_room-requires-clause-sides c = let s = whole-fit (sym c.in_ok-check_whole.ensures) in (s.narrow, s.short)

pub check_entries_and_room-requires-clause-counted : goal.check_entries_and_room-requires-clause-counted
check_entries_and_room-requires-clause-counted c = (whole-fit (sym c.in_ok-check_whole.ensures)).counted

pub returns : goal.returns
unfolding rest_early
returns c =
    next (sym (c.in_ok-check_whole.ensures ∙ sizes-of-pass 1 _ _ _ _ _ _ (search rules))) (next (searched 16 c.lists_fault.ensures c.in_ok-no_fault.ensures) c.check_entries_and_room.ensures)
