-- `shapes::in_all` meets its contract: the rows hold the pairs. Assumes nothing.
use Rattle.std.proofs.Common.{rules, tests, refl, ◌∙◌}
use Rattle.std.proofs.lemmas.Iterator.{YieldsList-from_range}
use Rattle.std.proofs.lemmas.Iterator.Search.{all_from_yields_List}
use Rattle.definitions.specs.Grid.{contains}
use Rattle.context.specs.Shown.{pair_at}
use Rattle.context.proofs.RowChains.{all_in_rows}
use Rattle.mouth_proposals.proofs.shapes.in_all.Goals as goal

pub returns : goal.returns
returns c =
    let f = contains c.args.r in
    all_from_yields_List (λ k. f (pair_at c.args.pairs.now k)) _ _ c.all.result c.all.ensures.ran (YieldsList-from_range _ _ _ refl refl) (λ x b q k. search (rules, tests))
    ∙ all_in_rows f c.args.pairs.now _ _
