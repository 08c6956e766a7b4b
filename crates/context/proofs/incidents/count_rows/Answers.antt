-- `incidents::count_rows` meets its contract. The invariant: the list has counted the rows passed. Assumes nothing.
use native.Mathlib.Omega.{arith}
use mathlib.Core.Path.{refl, sym, ap, ◌∙◌, subst}
use Rattle.context.specs.Shown.{pair_at, pairs_between}
use Rattle.context.specs.Rows.{NamedRow}
use Rattle.context.specs.Packed.{count_pair, count_pairs}
use Rattle.context.proofs.Counting.{rows_none, rows_more, rows-packed}
use Rattle.context.proofs.incidents.count_rows.Goals as goal

pub loop-k-init : goal.loop-k-init
loop-k-init c = rw c.into_iter-k-iterator.ensures.into_iter_gives (refl, omega arith, c.requires.ordered, rows_none _ _ _ _)

pub count_pair-requires-clause-named_row : goal.count_pair-requires-clause-named_row
count_pair-requires-clause-named_row c =
    let inv = c.loop-k.invariant in
    let step = c.in-Some.ensures.steps in
    subst (λ n. NamedRow c.args.pairs.now n c.in-Some.k) (sym c.loop-k.auto.counts)
    (c.requires.named_rows c.in-Some.k (omega (arith, inv.1, step.1.1)) (omega (arith, inv.0, step.1.0, step.1.1)))

pub count_pair-requires-clause-places : goal.count_pair-requires-clause-places
count_pair-requires-clause-places c =
    let few = c.requires.places.0 in
    (few, rows-packed _ _ _ _ c.loop-k.k-iterator.start few c.loop-k.invariant.3 c.requires.places.1)

pub loop-k-preserved : goal.loop-k-preserved
loop-k-preserved c =
    let inv = c.loop-k.invariant in
    let step = c.in-Some.ensures.steps in
    let one = rows_more _ _ _ _ c.loop-k.k-iterator.start inv.1 inv.3 (c.count_pair.ensures ∙ ap (λ k. count_pair c.args.span c.loop-k.counts (pair_at c.args.pairs.now k)) step.1.1) in
    (step.0 ∙ inv.0, omega (arith, inv.1, step.1.2), omega (arith, inv.0, step.1.0, step.1.2), rw step.1.2 one)

pub returns : goal.returns
returns c =
    let inv = c.loop-k.invariant in
    inv.3 ∙ ap (λ k. count_pairs c.args.span c.args.counts.now (pairs_between c.args.pairs.now c.args.rows.start k)) (omega (arith, inv.0, inv.2, c.in-None.ensures.steps.1))
