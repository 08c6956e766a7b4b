-- `Opening::read` meets its contract: thirty bytes of the input are its opening, and fewer are none. Assumes nothing.
use Rattle.std.proofs.Common.{arith, sym, subst, ◌≡◌}
use Rattle.std.specs.Prelude.{IfSome, Some}
use Rattle.replay_lists.specs.Openings.{next_opening}
use Rattle.replay_lists.proofs.Reading.{left_behind, whole_opening}
use Rattle.replay_lists.proofs.Opening.read.Goals as goal

pub returns-then-branch-lt-OPENING-clause-taken : goal.returns-then-branch-lt-OPENING-clause-taken
returns-then-branch-lt-OPENING-clause-taken g c =
    let r = c.in_ok-read_full in
    left_behind c.read_full.new.list r.field-0 30 (omega arith) _ _ r.ensures.within r.ensures.bytes r.ensures.ended

pub returns-clause-next : goal.returns-clause-next
returns-clause-next g c =
    let r = c.in_ok-read_full in
    subst (λ o. IfSome (g.R.Read.remaining c.args.input.now) (λ xs. Some o ≡ next_opening xs)) {y = c.from.result} (sym c.from.ensures)
    (whole_opening c.read_full.new.list r.field-0 (omega arith) _ _ c.if-branch-lt-OPENING.false r.ensures.bytes)

pub returns-clause-taken : goal.returns-clause-taken
returns-clause-taken g c =
    let r = c.in_ok-read_full in
    left_behind c.read_full.new.list r.field-0 30 (omega arith) _ _ r.ensures.within r.ensures.bytes r.ensures.ended
