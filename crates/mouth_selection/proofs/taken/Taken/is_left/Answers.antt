-- `taken::Taken::is_left` meets its contract: its mouth, its ramp end, its regions. Assumes nothing.
use mathlib.Core.Path.{sym, ap, ◌∙◌}
use mathlib.Core.Bool.{not, ◌&&◌}
use Rattle.mouth_selection.specs.Held.{held_at, left_at}
use Rattle.mouth_selection.proofs.TakenLaws.{left_is}
use Rattle.mouth_selection.proofs.taken.Taken.is_left.Goals as goal

pub returns-then-not-is_used-clause-marked : goal.returns-then-not-is_used-clause-marked
unfolding left_at
returns-then-not-is_used-clause-marked c =
    let s = c.args in
    let p = s.proposal in
    ap not c.proposal_held.ensures
    ∙ ap (λ b. not b && not (held_at s.context.pairs.now s.context.starts.now s.self.now.marks.now p.mouth p.outer p.kind)) (sym c.if-not-is_used.true)

pub returns-then-not-is_used-clause-left : goal.returns-then-not-is_used-clause-left
returns-then-not-is_used-clause-left c =
    let p = c.args.proposal in
    λ C T P S hm ha h. returns-then-not-is_used-clause-marked c ∙ left_is C T p.mouth p.ramp p.outer p.kind P S hm ha h

pub returns-else-not-is_used-clause-marked : goal.returns-else-not-is_used-clause-marked
unfolding left_at
returns-else-not-is_used-clause-marked c =
    let s = c.args in
    let p = s.proposal in
    ap not c.if-not-is_used.false
    ∙ ap (λ b. not b && not (held_at s.context.pairs.now s.context.starts.now s.self.now.marks.now p.mouth p.outer p.kind)) (sym c.if-not-is_used.false)

pub returns-else-not-is_used-clause-left : goal.returns-else-not-is_used-clause-left
returns-else-not-is_used-clause-left c =
    let p = c.args.proposal in
    λ C T P S hm ha h. returns-else-not-is_used-clause-marked c ∙ left_is C T p.mouth p.ramp p.outer p.kind P S hm ha h
