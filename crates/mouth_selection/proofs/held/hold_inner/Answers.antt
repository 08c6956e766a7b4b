-- `held::hold_inner` meets its contract. The invariant: the rows passed are held. Assumes nothing.
use native.Mathlib.Omega.{arith}
use mathlib.Core.Path.{refl, ap, ◌∙◌}
use Rattle.context.specs.Shown.{pair_at}
use Rattle.mouth_selection.proofs.Marks.{marked, none_marked, row-marked}
use Rattle.mouth_selection.proofs.held.hold_inner.Goals as goal

pub loop-k-init : goal.loop-k-init
loop-k-init c = rw c.into_iter-k-iterator.ensures.into_iter_gives (refl, omega arith, c.requires.ordered, none_marked _ _ _ _)

pub loop-k-preserved : goal.loop-k-preserved
loop-k-preserved c =
    let inv = c.loop-k.invariant in
    let step = c.in-Some.ensures.steps in (
      step.0 ∙ inv.0,
      omega (arith, inv.1, step.1.2),
      omega (arith, inv.0, step.1.0, step.1.2),
      rw step.1.2 (row-marked _ _ _ _ c.loop-k.k-iterator.start inv.1 inv.3 (c.row_at.ensures ∙ ap (pair_at c.args.pairs.now) step.1.1) c.hold_row.ensures),
    )

pub returns : goal.returns
returns c =
    let inv = c.loop-k.invariant in
    inv.3 ∙ ap (marked c.args.outer c.args.marks.now c.args.pairs.now c.args.rows.start) (omega (arith, inv.0, inv.2, c.in-None.ensures.steps.1))
