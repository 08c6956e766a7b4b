-- `sheet::number_at` meets its contract: one byte and two bytes as the grammar reads them, and all else as `number` does. Assumes nothing.
use mathlib.Core.Path.{sym, ◌∙◌}
use Rattle.sheet.proofs.ShortNumbers.{short_one, short_two}
use Rattle.sheet.proofs.number_at.Goals as goal

pub returns-then-first-lt128 : goal.returns-then-first-lt128
returns-then-first-lt128 c =
    short_one _ _ c.if-at-bytes.true c.from-first.ensures c.if-first-lt128.true

pub returns-then-ends_short : goal.returns-then-ends_short
returns-then-ends_short c =
    short_two _ _ c.if-at-bytes.true c.from-first.ensures c.if-first-lt128.false c.if-at-bytes-2.true c.from-second.ensures
    (sym c.ends_short.ensures ∙ c.if-ends_short.true)
