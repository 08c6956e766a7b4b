-- `next_place` meets its contract: the line's total rises, or falls, by 8 pixels times the strip's extent across its major axis, which is at most the step from one place to
-- the next. Assumes nothing.
use native.Mathlib.Omega.{arith}
use borrow.Author.Rules.{rules}
use Rattle.line_crossings.proofs.Moving.{small, goes-up, goes-along, goes_back, is_some, goes_down}
use Rattle.line_crossings.proofs.next_place.Goals as goal

pub overflow_add-result : goal.overflow_add-result
overflow_add-result c =
    let p = c.requires.some.2 in
    omega (arith, small c.requires.line.0 p.here p.few p.crossing)

pub overflow_sub-result-else-place-fall : goal.overflow_sub-result-else-place-fall
overflow_sub-result-else-place-fall c =
    let p = c.requires.some.2 in
    is_some p.here p.next p.crossing (search rules) (search rules)

pub returns-then-place-rise : goal.returns-then-place-rise
returns-then-place-rise c =
    record { crossing = λ tie k p. goes-up p.here p.next p.crossing c.requires.line.1 (search rules) (search rules); close = omega arith }

pub returns-else-place-rise : goal.returns-else-place-rise
returns-else-place-rise c =
    record { crossing = λ tie k p. goes-along p.here p.next p.crossing (search rules) (search rules); close = omega arith }

pub returns-then-place-fall : goal.returns-then-place-fall
returns-then-place-fall c =
    record { crossing = λ tie k p. goes_back p.here p.next p.crossing (search rules) (search rules); close = omega arith }

pub returns-else-place-fall : goal.returns-else-place-fall
returns-else-place-fall c =
    record { crossing = λ tie k p. goes_down p.here p.next p.crossing c.requires.line.1 (search rules) (search rules); close = omega arith }
