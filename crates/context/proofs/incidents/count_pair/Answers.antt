-- `incidents::count_pair` meets its contract: the smaller region, then the larger. Assumes nothing.
use mathlib.Core.Path.{sym, ap, ◌∙◌, subst}
use Rattle.context.specs.Packed.{count_region, count_pair, Packed}
use Rattle.context.proofs.Counting.{packed-region}
use Rattle.context.proofs.incidents.count_pair.Goals as goal

pub count_region-requires-2-clause-places : goal.count_region-requires-2-clause-places
count_region-requires-2-clause-places c =
    let few = c.requires.places.0 in
    (few, subst (Packed c.args.span) (sym c.count_region.ensures) (packed-region c.args.span few _ _ c.requires.places.1))

pub returns : goal.returns
unfolding count_pair
returns c =
    c.count_region-2.ensures
    ∙ ap (λ l. count_region c.args.span l c.row_at-pair.result.hi) c.count_region.ensures
    ∙ ap (count_pair c.args.span c.args.counts.now) c.row_at-pair.ensures
