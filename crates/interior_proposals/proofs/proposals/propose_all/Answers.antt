-- `proposals::propose_all` meets its contract. The invariant: the boundaries passed are done, and what was found is stored. Assumes nothing.
use native.Mathlib.Omega.{arith}
use mathlib.Core.Path.{◌≡◌, subst, ◌∙◌}
use lib.ListN.{length-set}
use Rattle.std.specs.Prelude.{None}
use Rattle.std.proofs.Math.ListN.{get_or-append}
use Rattle.interior_proposals.specs.Proposals.{Progress}
use Rattle.interior_proposals.proofs.ProgressLaws.{found_more}
use Rattle.interior_proposals.proofs.proposals.propose_all.Goals as goal

pub loop-i-preserved : goal.loop-i-preserved
loop-i-preserved c =
    let inv = c.loop-i.invariant in
    let i = c.loop-i.i in (
      c.propose_at.ensures.lengths.0 ∙ inv.0,
      c.propose_at.ensures.lengths.1 ∙ inv.1,
      simp length-set inv.2,
      λ C was wasMarks W P.
          let w = inv.3 C was wasMarks W P in
          let n = c.propose_at.ensures.proposed C was wasMarks W w.0 in
          (n.0, found_more C _ c.loop-i.ports-items i w.1 (omega (arith, c.loop-i-test.true, inv.2)) n.1),
    )

pub returns-clause-proposed : goal.returns-clause-proposed
returns-clause-proposed c =
    λ C was wasMarks W P.
    let w = c.loop-i.invariant.3 C was wasMarks W P in
    let same : c.loop-i.i ≡ C.count = omega (arith, c.loop-i.auto.i-end, c.loop-i.invariant.2, c.loop-i-test.false, W.counted) in (
      subst (λ n. Progress C c.args.owners.now was c.loop-i.names wasMarks c.loop-i.marks n) same w.0,
      λ j h. get_or-append c.loop-i.ports-items _ None j (omega (arith, h, same, c.loop-i.auto.i-end)) ∙ w.1 j (omega (arith, h, same)),
    )
