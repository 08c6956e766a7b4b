-- `faults::passing_terms` meets its contract. The invariant: the terms below i break no rule, and the ends are the latest of theirs. Assumes nothing.
use mathlib.Core.Path.{refl, sym, ap, subst, ◌∙◌}
use Rattle.laws.specs.ListLaws.FirstBelow.{none_below-zero, none_below_more}
use Rattle.pool_faults.specs.Ends.{EndKept, passes}
use Rattle.pool_faults.proofs.TermScan.{latest-starts, latest_next, passes-fine}
use borrow.Author.Rules.{rules}
use Rattle.pool_faults.proofs.faults.passing_terms.Goals as goal

pub loop-i-init : goal.loop-i-init
loop-i-init c = (search rules, none_below-zero _, latest-starts _ _ refl)

pub loop-i-preserved : goal.loop-i-preserved
loop-i-preserved c =
    let latest = c.loop-i.invariant.2 in
    let t = c.term_at-term.ensures in (
      search rules,
      none_below_more _ c.loop-i.i c.loop-i.invariant.1 (passes-fine _ _ _ latest (ap (λ x. passes x c.loop-i.ends) (sym t) ∙ sym c.passes.ensures ∙ search rules)),
      latest_next _ _ _ latest (subst (λ x. EndKept x c.loop-i.ends c.keep_end.new.ends) t c.keep_end.ensures),
    )
