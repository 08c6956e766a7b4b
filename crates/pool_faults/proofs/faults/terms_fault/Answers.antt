-- `faults::terms_fault` meets its contract. The invariant: the terms below i break no rule. Assumes nothing.
use mathlib.Core.Path.{◌≡◌, sym, ap, ◌∙◌}
use Rattle.laws.specs.ListLaws.FirstBelow.{none_below_more, none_below-end, first_found}
use Rattle.catalogue.specs.Terms.{terms_refusal}
use Rattle.refusals.specs.Refusals.{refusal_in}
use borrow.Author.Rules.{rules}
use Rattle.pool_faults.proofs.faults.terms_fault.Goals as goal

pub returns-in_err-term_fault : goal.returns-in_err-term_fault
unfolding terms_refusal
returns-in_err-term_fault c =
    let I = c.loop-i.invariant in
    let found = ap refusal_in c.in_err-term_fault.was in
    let given : refusal_in c.from_residual.result ≡ refusal_in c.term_fault.result = search rules in
    given ∙ found ∙ sym (first_found _ _ c.loop-i.i _ c.loop-i-test.true I.1 (sym c.term_fault.ensures ∙ found))

pub loop-i-preserved : goal.loop-i-preserved
loop-i-preserved c =
    (search rules, none_below_more _ c.loop-i.i c.loop-i.invariant.1 (sym c.term_fault.ensures ∙ ap refusal_in c.in_ok-term_fault.was))

pub returns : goal.returns
unfolding terms_refusal
returns c =
    sym (none_below-end _ _ c.loop-i.i c.loop-i.invariant.0 c.loop-i-test.false c.loop-i.invariant.1)
