-- `components::join_pairs` meets its contract. The invariant: the rows passed are merged. Assumes nothing.
use Prim.Native.Nat.{ℕ, ◌<◌}
use native.Mathlib.Omega.{arith}
use mathlib.Core.Path.{refl, ◌∙◌, ap}
use mathlib.Core.List.{List}
use Rattle.context.specs.Shown.{pair_at, pairs_between}
use Rattle.interior_proposals.specs.Forest.{Merged}
use Rattle.interior_proposals.proofs.Forests.{two_classes, joined, rows_start, row-placed, rows_more, rows_end}
use Rattle.interior_proposals.proofs.Walks.{row_low, row_high}
use Rattle.interior_proposals.proofs.components.join_pairs.Goals as goal

pub loop-k-init : goal.loop-k-init
loop-k-init c = rw c.into_iter-k-iterator.ensures.into_iter_gives (refl, omega arith, c.requires.sizes.0, λ cs P w. rows_start _ _ _ _ P)

pub join-requires : goal.join-requires
join-requires c =
    let names : List ℕ = c.requires.joinable.0 in
    let inv = c.loop-k.invariant in
    let step = c.in-Some.ensures.steps in
    let k = c.loop-k.k-iterator.start in
    let m : Merged names c.args.parents.now (pairs_between c.args.pairs.now c.args.rows.start k) c.loop-k.parents = inv.3 names c.requires.joinable.1.0 c.requires.joinable.1.1 in
    let read = c.row_at-lo.ensures ∙ ap (pair_at c.args.pairs.now) step.1.1 in
    two_classes (row-placed _ _ _ _ k m (c.requires.joinable.1.1 k inv.1 (omega (arith, inv.0, step.1.0))) (row_low c.args.pairs.now k read) (row_high c.args.pairs.now k read)) m.parented

pub loop-k-preserved : goal.loop-k-preserved
loop-k-preserved c =
    let inv = c.loop-k.invariant in
    let step = c.in-Some.ensures.steps in
    let k = c.loop-k.k-iterator.start in
    let below : k < c.args.rows.end = omega (arith, inv.0, step.1.0) in
    let read = c.row_at-lo.ensures ∙ ap (pair_at c.args.pairs.now) step.1.1 in (
      step.0 ∙ inv.0,
      omega (arith, inv.1, step.1.2),
      omega (arith, below, step.1.2),
      λ cs P w.
          let m = inv.3 cs P w in
          let d = row_low c.args.pairs.now k read in
          let e = row_high c.args.pairs.now k read in
          let p = w k inv.1 below in
          rw step.1.2 (rows_more _ _ _ _ k m p d e inv.1 (joined (row-placed _ _ _ _ k m p d e) m.parented c.join.ensures)),
    )

pub returns : goal.returns
returns c =
    let inv = c.loop-k.invariant in
    λ cs P w. rows_end _ _ _ _ _ (inv.3 cs P w) inv.2 (omega (arith, inv.0, c.in-None.ensures.steps.1))
