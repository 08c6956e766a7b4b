-- `leaves::clear_exteriors` meets its contract. The invariant: what the rows passed name is no more marked. Assumes nothing.
use Prim.Native.Nat.{◌<◌}
use native.Mathlib.Omega.{arith}
use mathlib.Core.Path.{refl, ap, ◌∙◌}
use Rattle.context.specs.Shown.{pair_at}
use Rattle.interior_proposals.proofs.Walks.{row_low, row_high}
use Rattle.interior_proposals.proofs.ExteriorLaws.{clearing-start, clearing_more, clearing-end}
use Rattle.interior_proposals.proofs.leaves.clear_exteriors.Goals as goal

pub loop-k-init : goal.loop-k-init
loop-k-init c =
    rw c.into_iter-k-iterator.ensures.into_iter_gives (refl, omega arith, c.requires.rising, refl, λ C rs w M. clearing-start C _ _ _ _ w M)

pub loop-k-preserved : goal.loop-k-preserved
loop-k-preserved c =
    let inv = c.loop-k.invariant in
    let step = c.in-Some.ensures.steps in
    let k = c.loop-k.k-iterator.start in
    let below : k < c.args.rows.end = omega (arith, inv.0, step.1.0) in
    let read = c.row_at-pair.ensures ∙ ap (pair_at c.args.pairs.now) step.1.1 in (
      step.0 ∙ inv.0,
      omega (arith, inv.1, step.1.2),
      omega (arith, below, step.1.2),
      c.clear_exterior-in-loop-k.ensures.marks_length ∙ c.clear_exterior.ensures.marks_length ∙ inv.3,
      λ C rs w M.
          rw step.1.2 (clearing_more C _ _ _ _ w k inv.1 below (row_low c.args.pairs.now k read) (row_high c.args.pairs.now k read) (inv.4 C rs w M) c.clear_exterior.ensures.marks c.clear_exterior-in-loop-k.ensures.marks),
    )

pub returns-clause-cleared : goal.returns-clause-cleared
returns-clause-cleared c =
    let inv = c.loop-k.invariant in
    λ C rs w M. clearing-end C rs _ _ _ w (inv.4 C rs w M) inv.2 (omega (arith, inv.0, c.in-None.ensures.steps.1))
