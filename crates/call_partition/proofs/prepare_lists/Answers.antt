-- `call_partition::prepare_lists` meets its contract: a check refuses, or the lists fit and are divided, whatever pass is asked for. Assumes nothing.
use Rattle.std.proofs.Common.{rules, sym, ◌≡◌, ◌∙◌}
use Rattle.std.specs.Prelude.{Err}
use Rattle.refusals.proofs.Steps.{here, next}
use Rattle.call_partition.proofs.EarlyFits.{early-fits}
use Rattle.call_partition.proofs.SizesPassed.{early-of-pass, whole-fit}
use Rattle.call_partition.specs.Asking.{grid_in}
use Rattle.call_partition.proofs.OnGrid.{divided_on}
use Rattle.call_partition.proofs.Preparing.{refused-before}
use Rattle.call_partition.proofs.prepare_lists.Goals as goal

pub returns-in_err-check_whole-clause-prepared : goal.returns-in_err-check_whole-clause-prepared
returns-in_err-check_whole-clause-prepared c =
    let r : c.from_residual.result ≡ Err c.in_err-check_whole.field-0.0 = search rules in
    rw r (λ pass p. refused-before pass _ _ _ _ _ _ _ _ _ _ _ _ _ _ _ (here _ (sym c.in_err-check_whole.ensures) ∙ early-of-pass pass _ _ _ _ _ _ _ _ _ _ _ p))

pub check_lists-requires-clause-sides : goal.check_lists-requires-clause-sides
check_lists-requires-clause-sides c = let s = whole-fit (sym c.in_ok-check_whole.ensures) in (s.narrow, s.short)

pub check_lists-requires-clause-counted : goal.check_lists-requires-clause-counted
check_lists-requires-clause-counted c = (whole-fit (sym c.in_ok-check_whole.ensures)).counted

pub returns-in_err-check_lists-clause-prepared : goal.returns-in_err-check_lists-clause-prepared
returns-in_err-check_lists-clause-prepared c =
    let r : c.from_residual-in_err-check_lists.result ≡ Err c.in_err-check_lists.field-0.0 = search rules in
    rw r (λ pass p. refused-before pass _ _ _ _ _ _ _ _ _ _ _ _ _ _ _ (next (sym c.in_ok-check_whole.ensures) c.in_err-check_lists.ensures ∙ early-of-pass pass _ _ _ _ _ _ _ _ _ _ _ p))

pub divide-requires : goal.divide-requires
divide-requires c =
    let e = next (sym c.in_ok-check_whole.ensures) c.in_ok-check_lists.ensures ∙ early-of-pass 1 _ _ _ _ _ _ _ _ _ _ _ (search rules) in
    rw c.grid.ensures (early-fits _ _ _ _ _ _ _ _ _ _ _ _ (sym e))

pub returns-clause-prepared : goal.returns-clause-prepared
returns-clause-prepared c =
    λ pass p.
    divided_on (grid_in c.args.asked) _ _ c.args.lists.now c.divide.new.lists _ c.grid.ensures c.divide.ensures.divided pass _ _ _
    (next (sym c.in_ok-check_whole.ensures) c.in_ok-check_lists.ensures ∙ early-of-pass pass _ _ _ _ _ _ _ _ _ _ _ p)
