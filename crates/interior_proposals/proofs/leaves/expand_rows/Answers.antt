-- `leaves::expand_rows` meets its contract. The invariant: the names hold what the rows passed expand the regions to. Assumes nothing.
use Prim.Native.Nat.{◌<◌}
use native.Mathlib.Omega.{arith}
use mathlib.Core.Path.{refl, ap, ◌∙◌}
use Rattle.context.specs.Shown.{pair_at}
use Rattle.interior_proposals.proofs.Walks.{row_low, row_high}
use Rattle.interior_proposals.proofs.LeafLaws.{up_to, held_start, row_of, held_more, held-end}
use Rattle.interior_proposals.proofs.leaves.expand_rows.Goals as goal

pub loop-k-init : goal.loop-k-init
loop-k-init c =
    rw c.into_iter-k-iterator.ensures.into_iter_gives (refl, omega arith, c.requires.1.0.rising, refl, λ C i rs es v P I M. held_start C i _ rs es v _ _ _ P I)

pub loop-k-preserved : goal.loop-k-preserved
loop-k-preserved c =
    let inv = c.loop-k.invariant in
    let step = c.in-Some.ensures.steps in
    let k = c.loop-k.k-iterator.start in
    let below : k < c.args.rows.end = omega (arith, inv.0, step.1.0) in
    let read = c.row_at.ensures ∙ ap (pair_at c.args.pairs.now) step.1.1 in (
      step.0 ∙ inv.0,
      omega (arith, inv.1, step.1.2),
      omega (arith, below, step.1.2),
      c.expand_row-fit.ensures.names_length ∙ inv.3,
      λ C i rs es v P I M.
          let H = inv.4 C i rs es v P I M in
          let s = up_to C i c.args.r rs es v c.args.pairs.now c.args.rows.start c.args.rows.end P k in
          let low = row_low c.args.pairs.now k read in
          let high = row_high c.args.pairs.now k read in
          rw step.1.2 (held_more C i _ rs es v _ _ _ P k inv.1 below low high H (c.expand_row-fit.ensures.expanded C i s.regions es s.valid (row_of C i c.args.r rs es v _ _ _ P k inv.1 below low high) H.inside M)),
    )

pub returns-clause-expanded : goal.returns-clause-expanded
returns-clause-expanded c =
    let inv = c.loop-k.invariant in
    λ C i rs es v P I M. held-end C i _ rs es v _ _ _ P (inv.4 C i rs es v P I M) inv.2 (omega (arith, inv.0, c.in-None.ensures.steps.1))
