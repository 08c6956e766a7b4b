-- `sheet::short_at` meets its contract: one byte and two bytes as the grammar reads them. The second byte is not 0, since a number that is padded would not
-- have been judged to stand there. Assumes nothing.
use Rattle.sheet.proofs.ShortNumbers.{short_one, short_two, second_ends_lem, held_first, held-second, held-above}
use Rattle.sheet.proofs.short_at.Goals as goal

pub bounds-bytes-at : goal.bounds-bytes-at
bounds-bytes-at c = held_first _ _ c.requires

pub returns-then-first-lt128 : goal.returns-then-first-lt128
returns-then-first-lt128 c =
    short_one _ _ (held_first _ _ c.requires) c.from-first.ensures c.if-first-lt128.true

pub bounds-bytes-at-2 : goal.bounds-bytes-at-2
bounds-bytes-at-2 c =
    held-second _ _ c.requires c.from-first.ensures c.if-first-lt128.false

pub returns-then-second-lt128 : goal.returns-then-second-lt128
returns-then-second-lt128 c =
    let held = c.requires in
    let above = held-above _ _ held c.from-first.ensures c.if-first-lt128.false c.from-second.ensures in
    short_two _ _ (held_first _ _ held) c.from-first.ensures c.if-first-lt128.false
    (held-second _ _ held c.from-first.ensures c.if-first-lt128.false) c.from-second.ensures
    (second_ends_lem c.from-second.result above c.if-second-lt128.true)
