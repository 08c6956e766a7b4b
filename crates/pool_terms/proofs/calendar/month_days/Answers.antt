-- `calendar::month_days` meets its contract: February has the leap day. Assumes nothing.
use Rattle.std.proofs.Common.{sym, ap, ◌≡◌, ◌∙◌, ◌+◌, ◌-◌, get_or}
use mathlib.Core.Bool.{◌&&◌}
use borrow.Author.Tests.{eq-eqb, ne_eqb}
use mir.Val.{bool_byte}
use lib.Dec.{eqb}
use Rattle.catalogue.specs.Dates.{is_leap, month_days, plain_months}
use Rattle.pool_terms.proofs.CalendarTables.{byte_is}
use Rattle.pool_terms.proofs.calendar.month_days.Goals as goal
use Rattle.pool_terms.proofs.calendar.month_days.Goals.{then-month-eq2, else-month-eq2}

pub returns : goal.returns
unfolding month_days
returns c =
    let year = c.args.year in
    let month = c.args.month in
    let leap : c.if-month-eq2.from ≡ (eqb month 2 && is_leap year) =
    elim c.if-month-eq2.branch [
      | then-month-eq2 w ↦ w.from-is ∙ w.is_leap.ensures ∙ ap (λ b. b && is_leap year) (sym (eq-eqb month 2 w.if-month-eq2.true))
      | else-month-eq2 w ↦ w.from-is ∙ ne_eqb month 2 w.if-month-eq2.false ∙ ap (λ b. b && is_leap year) (sym (ne_eqb month 2 w.if-month-eq2.false))
    ] in
    ap (λ n. get_or plain_months (month - 1) 0 + n) (c.from.ensures ∙ ap bool_byte leap ∙ byte_is _)
