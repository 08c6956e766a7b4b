-- `leaves::mark_exteriors` meets its contract. The invariant: the exteriors of the rows passed are marked. Assumes nothing.
use Prim.Native.Nat.{◌<◌}
use native.Mathlib.Omega.{arith}
use mathlib.Core.Path.{refl, sym, ap, ◌∙◌}
use mathlib.Core.Bool.{true, false, and-true, and-false}
use Rattle.context.specs.Shown.{pair_at}
use Rattle.interior_proposals.proofs.Walks.{row_low, row_high}
use Rattle.interior_proposals.proofs.ExteriorLaws.{marking-start, marking-by, marking-end}
use Rattle.interior_proposals.proofs.leaves.mark_exteriors.Goals as goal

pub loop-k-init : goal.loop-k-init
loop-k-init c =
    rw c.into_iter-k-iterator.ensures.into_iter_gives (refl, omega arith, c.requires.1.0.rising, refl, λ C rs w I M. marking-start C rs _ _ _ _ _ I w M)

pub loop-k-preserved-in-true-true : goal.loop-k-preserved-in-true-true
loop-k-preserved-in-true-true c =
    let inv = c.loop-k.invariant in
    let step = c.in-Some.ensures.steps in
    let k = c.loop-k.k-iterator.start in
    let in_rows : k < c.args.rows.end = omega (arith, inv.0, step.1.0) in
    let read = c.row_at-lo.ensures ∙ ap (pair_at c.args.pairs.now) step.1.1 in (
      step.0 ∙ inv.0,
      omega (arith, inv.1, step.1.2),
      omega (arith, in_rows, step.1.2),
      inv.3,
      λ C rs w I M.
          rw step.1.2
          (marking-by C rs _ _ _ _ _ I w k inv.1 in_rows (row_low c.args.pairs.now k read) (row_high c.args.pairs.now k read) refl refl (inv.4 C rs w I M) true true
          (sym c.is_named.ensures ∙ c.in-true-true.if-is_named-true) (sym c.is_named-in-loop-k.ensures ∙ c.in-true-true.if-is_named-2-true) refl (sym (and-false _))),
    )

pub loop-k-preserved-in-true-false : goal.loop-k-preserved-in-true-false
loop-k-preserved-in-true-false c =
    let inv = c.loop-k.invariant in
    let step = c.in-Some.ensures.steps in
    let k = c.loop-k.k-iterator.start in
    let in_rows : k < c.args.rows.end = omega (arith, inv.0, step.1.0) in
    let read = c.row_at-lo.ensures ∙ ap (pair_at c.args.pairs.now) step.1.1 in (
      step.0 ∙ inv.0,
      omega (arith, inv.1, step.1.2),
      omega (arith, in_rows, step.1.2),
      c.mark_exterior.ensures.marks_length ∙ inv.3,
      λ C rs w I M.
          rw step.1.2
          (marking-by C rs _ _ _ _ _ I w k inv.1 in_rows (row_low c.args.pairs.now k read) (row_high c.args.pairs.now k read) refl refl (inv.4 C rs w I M) true false
          (sym c.is_named.ensures ∙ c.in-true-false.if-is_named-true) (sym c.is_named-in-loop-k.ensures ∙ c.in-true-false.if-is_named-2-false) c.mark_exterior.ensures.marks (sym (and-true _))),
    )

pub loop-k-preserved-in-false-true : goal.loop-k-preserved-in-false-true
loop-k-preserved-in-false-true c =
    let inv = c.loop-k.invariant in
    let step = c.in-Some.ensures.steps in
    let k = c.loop-k.k-iterator.start in
    let in_rows : k < c.args.rows.end = omega (arith, inv.0, step.1.0) in
    let read = c.row_at-lo.ensures ∙ ap (pair_at c.args.pairs.now) step.1.1 in (
      step.0 ∙ inv.0,
      omega (arith, inv.1, step.1.2),
      omega (arith, in_rows, step.1.2),
      c.mark_exterior-in-false-true.ensures.marks_length ∙ inv.3,
      λ C rs w I M.
          rw step.1.2
          (marking-by C rs _ _ _ _ _ I w k inv.1 in_rows (row_low c.args.pairs.now k read) (row_high c.args.pairs.now k read) refl refl (inv.4 C rs w I M) false true
          (sym c.is_named.ensures ∙ c.in-false-true.if-is_named-false) (sym c.is_named-in-loop-k.ensures ∙ c.in-false-true.if-this-true) c.mark_exterior-in-false-true.ensures.marks (sym (and-true _))),
    )

pub loop-k-preserved : goal.loop-k-preserved
loop-k-preserved c =
    let inv = c.loop-k.invariant in
    let step = c.in-Some.ensures.steps in
    let k = c.loop-k.k-iterator.start in
    let in_rows : k < c.args.rows.end = omega (arith, inv.0, step.1.0) in
    let read = c.row_at-lo.ensures ∙ ap (pair_at c.args.pairs.now) step.1.1 in (
      step.0 ∙ inv.0,
      omega (arith, inv.1, step.1.2),
      omega (arith, in_rows, step.1.2),
      inv.3,
      λ C rs w I M.
          rw step.1.2
          (marking-by C rs _ _ _ _ _ I w k inv.1 in_rows (row_low c.args.pairs.now k read) (row_high c.args.pairs.now k read) refl refl (inv.4 C rs w I M) false false
          (sym c.is_named.ensures ∙ c.in-false-false.if-is_named-false) (sym c.is_named-in-loop-k.ensures ∙ c.in-false-false.if-this-false) refl (sym (and-true _))),
    )

pub returns-clause-marked : goal.returns-clause-marked
returns-clause-marked c =
    let inv = c.loop-k.invariant in
    λ C rs w I M. marking-end C rs _ _ _ _ _ I w (inv.4 C rs w I M) inv.2 (omega (arith, inv.0, c.in-None.ensures.steps.1))
