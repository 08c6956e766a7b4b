-- `calendar::days_before_month` meets its contract, by the table's law `months_before`. Assumes nothing.
use Rattle.std.proofs.Common.{arith, sym, ap, ◌≡◌, ◌∙◌, ◌+◌, ◌-◌, get_or}
use mathlib.Core.Bool.{◌&&◌}
use borrow.Author.Tests.{lt-ltb, le-ltb}
use mir.Val.{bool_byte}
use lib.Dec.{ltb}
use Rattle.catalogue.specs.Dates.{is_leap}
use Rattle.pool_terms.proofs.CalendarTables.{before_month, months_before, byte_is}
use Rattle.pool_terms.proofs.calendar.days_before_month.Goals as goal
use Rattle.pool_terms.proofs.calendar.days_before_month.Goals.{then-month-gt2, else-month-gt2}

pub returns : goal.returns
returns c =
    let year = c.args.year in
    let month = c.args.month in
    let leap : c.if-month-gt2.from ≡ (ltb 1 (month - 1) && is_leap year) =
    elim c.if-month-gt2.branch [
      | then-month-gt2 w ↦ w.from-is ∙ w.is_leap.ensures ∙ ap (λ b. b && is_leap year) (sym (lt-ltb 1 (month - 1) (omega (arith, w.if-month-gt2.true))))
      | else-month-gt2 w ↦ w.from-is ∙ le-ltb 2 month w.if-month-gt2.false ∙ ap (λ b. b && is_leap year) (sym (le-ltb 1 (month - 1) (omega (arith, w.if-month-gt2.false))))
    ] in
    ap (λ n. get_or before_month (month - 1) 0 + n) (c.from.ensures ∙ ap bool_byte leap ∙ byte_is _) ∙ sym (months_before year month c.requires.0 c.requires.1)
