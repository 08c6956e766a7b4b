-- `calendar::day_number` meets its contract, by the tables' laws `years_before` and `months_before`. Assumes nothing.
use Rattle.catalogue.specs.Dates.{day_number}
use Rattle.catalogue.proofs.DateLaws.{parts}
use Rattle.pool_terms.proofs.CalendarTables.{years_before, months_most, month_most}
use native.Mathlib.Omega.{arith}
use Rattle.pool_terms.proofs.calendar.day_number.Goals as goal

pub overflow_sub-years : goal.overflow_sub-years
overflow_sub-years c =
    let P = parts _ c.requires in
    omega (arith, P.from_2000, P.to_2099, P.month_from, P.month_to, P.day_from, P.day_to)

pub overflow_mul-result : goal.overflow_mul-result
overflow_mul-result c =
    let P = parts _ c.requires in
    omega (arith, P.from_2000, P.to_2099, P.month_from, P.month_to, P.day_from, P.day_to)

pub overflow_add-result-2 : goal.overflow_add-result-2
overflow_add-result-2 c =
    let P = parts _ c.requires in
    omega (arith, P.from_2000, P.to_2099, P.month_from, P.month_to, P.day_from, P.day_to)

pub days_before_month-requires : goal.days_before_month-requires
days_before_month-requires c =
    let P = parts _ c.requires in
    (P.month_from, P.month_to)

pub overflow_add-result-3 : goal.overflow_add-result-3
overflow_add-result-3 c =
    let P = parts _ c.requires in
    omega (arith, c.days_before_month.ensures, P.from_2000, P.to_2099, months_most c.args.date.year c.args.date.month P.month_from P.month_to)

pub overflow_sub-result : goal.overflow_sub-result
overflow_sub-result c =
    let P = parts _ c.requires in
    omega (arith, P.from_2000, P.to_2099, P.month_from, P.month_to, P.day_from, P.day_to)

pub overflow_add-result-4 : goal.overflow_add-result-4
overflow_add-result-4 c =
    let P = parts _ c.requires in
    omega (arith, c.days_before_month.ensures, P.from_2000, P.to_2099, P.day_from, P.day_to, months_most c.args.date.year c.args.date.month P.month_from P.month_to, month_most c.args.date.year c.args.date.month P.month_to)

pub returns : goal.returns
unfolding day_number
returns c =
    let P = parts _ c.requires in
    omega (arith, c.days_before_month.ensures, years_before c.args.date.year (omega (arith, P.to_2099)))
