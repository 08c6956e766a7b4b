-- `maps::count_maps` meets its contract. Assumes nothing.
use Rattle.std.proofs.Common.{rules, ◌∙◌}
use Rattle.std.proofs.lemmas.Iterator.{YieldsList-from_slice}
use Rattle.std.proofs.lemmas.Iterator.Consumers.{YieldsList-from_filter, count_from_yields_List}
use Rattle.catalogue.specs.Terms.{days_of, contains}
use Rattle.pool_terms.specs.Contract.{term_in}
use Rattle.pool_entries.proofs.Listing.{all-counted}
use Rattle.pool_entries.proofs.maps.count_maps.Goals as goal

pub returns : goal.returns
returns c =
    let terms = c.args.terms.now in
    let day = c.args.day in
    count_from_yields_List c.filter.result c.count.result c.count.ensures.ran
    (YieldsList-from_filter _ (λ e. contains day (days_of (term_in e))) (YieldsList-from_slice c.as_chunks.result.0.now cc) c.filter.ensures.closure (λ x b q k. search rules))
    ∙ all-counted terms day c.as_chunks.ensures.front c.as_chunks.ensures.front_len
