-- `terms::overlaps_earlier` meets its contract. Assumes nothing.
use Rattle.std.proofs.Common.{rules, arith, refl, ◌∙◌}
use Rattle.std.proofs.lemmas.Iterator.{YieldsList-from_range}
use Rattle.std.proofs.lemmas.Iterator.Search.{any_from_yields_List}
use Rattle.catalogue.specs.Terms.{term_at, overlaps_earlier}
use Rattle.pool_terms.specs.Contract.{days_as, sharing}
use Rattle.range_laws.specs.Ranges.{any_range}
use Rattle.pool_terms.proofs.terms.overlaps_earlier.Goals as goal

pub returns : goal.returns
unfolding overlaps_earlier term_at
returns c =
    let i = c.args.i in
    let f = sharing c.args.terms.now (term_at c.args.terms.now i).on_map (days_as c.args.days) in
    any_from_yields_List f _ _ c.any.result c.any.ensures.ran (YieldsList-from_range 0 i i refl (omega arith)) (λ x b q k. (search rules, search rules)) ∙ any_range f i
