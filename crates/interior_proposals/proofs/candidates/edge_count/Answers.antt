-- `candidates::edge_count` meets its contract, by what `filter` and `count` give. Assumes nothing.
use Rattle.std.proofs.Common.{rules, tests, arith, take, ◌∙◌}
use Rattle.std.proofs.lemmas.Iterator.{YieldsList-from_slice}
use Rattle.std.proofs.lemmas.Iterator.Consumers.{YieldsList-from_filter, count_from_yields_List}
use Rattle.interior_proposals.specs.Owners.{owned_by}
use Rattle.interior_proposals.proofs.CandidateLaws.{owned_count}
use Rattle.interior_proposals.proofs.candidates.edge_count.Goals as goal

pub returns : goal.returns
returns c =
    let owners = c.args.owners.now in
    let n = c.args.count in
    count_from_yields_List c.filter.result c.count.result c.count.ensures.ran
    (YieldsList-from_filter _ (owned_by c.args.r) (YieldsList-from_slice (take n owners) cc) c.filter.ensures.closure (λ x b q k. search (rules, tests)))
    ∙ owned_count owners c.args.r n (omega (arith, c.requires, c.told-owners))
