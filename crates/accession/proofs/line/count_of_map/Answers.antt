-- `accession::line::count_of_map` meets its contract. Assumes nothing.
use Rattle.std.proofs.Common.{rules, tests, ◌∙◌, get_or}
use Rattle.std.proofs.lemmas.Iterator.{YieldsList-from_slice}
use Rattle.std.proofs.lemmas.Iterator.Consumers.{YieldsList-from_filter, count_from_yields_List}
use lib.Dec.{eqb}
use Rattle.accession.proofs.Searching.{counted}
use Rattle.accession.proofs.line.count_of_map.Goals as goal

pub returns : goal.returns
returns c =
    let number = c.args.number in
    count_from_yields_List c.filter.result c.count.result c.count.ensures.ran
    (YieldsList-from_filter _ (λ e. eqb (get_or e 1 0) number) (YieldsList-from_slice c.as_chunks.result.0.now cc) c.filter.ensures.closure (λ x b q k. search (rules, tests)))
    ∙ counted c.args.records.now c.as_chunks.ensures.front c.as_chunks.ensures.front_len number
