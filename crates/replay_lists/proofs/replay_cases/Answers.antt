-- `replay_cases` meets its contract. The invariant: what is left is what stands behind the cases so far. Assumes nothing.
use Rattle.std.proofs.Common.{arith, subst, ◌≡◌}
use Rattle.std.specs.Prelude.{Some, IfSome}
use Rattle.replay_lists.specs.Openings.{behind_cases}
use Rattle.replay_lists.proofs.Reading.{one_behind, all_behind, before_all}
use Rattle.replay_lists.proofs.replay_cases.Goals as goal

pub loop-init : goal.loop-init
loop-init g c = before_all _

pub returns-then-not-branch : goal.returns-then-not-branch
returns-then-not-branch g c =
    let r = c.in_ok-replay_next in
    all_behind 65536 c.loop.counter _ _ _ r.field-0 c.loop-test.true c.if-not-branch.true c.loop.invariant r.ensures.more r.ensures.taken

pub loop-preserved : goal.loop-preserved
loop-preserved g c = one_behind c.loop.counter _ _ _ c.loop.invariant c.in_ok-replay_next.ensures.taken

pub returns : goal.returns
returns g c =
    let all : c.loop.counter ≡ 65536 = omega arith in
    subst (λ k. IfSome (g.R.Read.remaining c.args.input.now) (λ xs. g.R.Read.remaining c.loop.input ≡ Some (behind_cases k xs))) all c.loop.invariant
