-- `terms::Term::days` meets its contract, by those of the calendar. Assumes nothing.
use mathlib.Core.Path.{sym, ap, ap₂, ◌∙◌}
use Rattle.catalogue.specs.Dates.{end_of}
use Rattle.catalogue.specs.Terms.{from_to, days_of}
use Rattle.pool_terms.specs.Contract.{date_as, days_in}
use Rattle.pool_terms.proofs.terms.Term.days.Goals as goal

pub returns-in_err-from : goal.returns-in_err-from
unfolding days_of
returns-in_err-from c =
    ap days_in c.from_residual.ensures ∙ ap (λ first. from_to first (end_of (date_as c.args.self.end))) (sym c.in_err-from.was ∙ c.day_of.ensures)

pub returns-in_err-to : goal.returns-in_err-to
unfolding days_of
returns-in_err-to c =
    ap days_in c.from_residual-in_err-to.ensures ∙ ap₂ from_to (sym c.in_ok-from.was ∙ c.day_of.ensures) (sym c.in_err-to.was ∙ c.end_of.ensures)

pub returns : goal.returns
unfolding days_of
returns c = ap₂ from_to (sym c.in_ok-from.was ∙ c.day_of.ensures) (sym c.in_ok-to.was ∙ c.end_of.ensures)
