-- `calendar::end_of` meets its contract: 1 January 2100 has the number of days of the century, and any other end is a day. Assumes nothing.
use mathlib.Core.Path.{refl, sym, ◌∙◌}
use Rattle.catalogue.specs.Dates.{end_of}
use Rattle.pool_terms.proofs.CalendarTables.{last_end-number}
use Rattle.pool_terms.proofs.calendar.end_of.Goals as goal

pub returns-then-is_last_end : goal.returns-then-is_last_end
unfolding end_of
returns-then-is_last_end c =
    let last = sym c.is_last_end.ensures ∙ c.if-is_last_end.true in
    rw (last, last_end-number _ last) refl

pub returns-else-is_last_end : goal.returns-else-is_last_end
unfolding end_of
returns-else-is_last_end c =
    let other = sym c.is_last_end.ensures ∙ c.if-is_last_end.false in
    rw other c.day_of.ensures
