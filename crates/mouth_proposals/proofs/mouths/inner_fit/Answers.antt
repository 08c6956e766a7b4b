-- `mouths::inner_fit` meets its contract, by what `all` gives of the rows. Assumes nothing.
use Rattle.std.proofs.Common.{rules, tests, refl, sym, ◌∙◌, Bool, ◌&&◌}
use Rattle.std.proofs.lemmas.Iterator.{YieldsList-from_range}
use Rattle.std.proofs.lemmas.Iterator.Search.{all_from_yields_List}
use Rattle.definitions.specs.Grid.{Pair}
use Rattle.context.specs.Shown.{pair_at, pairs_between}
use Rattle.context.proofs.RowChains.{all_in_rows}
use Rattle.mouth_proposals.specs.Outers.{inner_fits}
use Rattle.mouth_proposals.proofs.RowLists.{all-regions}
use Rattle.mouth_proposals.proofs.mouths.inner_fit.Goals as goal

pub returns : goal.returns
returns c =
    let s = c.args in
    let fits = inner_fits s.regions.marks.now s.regions.counts.now s.sides.outer s.sides.approach in
    let both : Pair → Bool = λ p. fits p.lo && fits p.hi in
    all_from_yields_List (λ k. both (pair_at s.pairs.now k)) _ _ c.all.result c.all.ensures.ran (YieldsList-from_range _ _ _ refl refl) (λ x b q k. search (rules, tests))
    ∙ all_in_rows both s.pairs.now _ _
    ∙ sym (all-regions fits (pairs_between s.pairs.now s.rows.start s.rows.end))
