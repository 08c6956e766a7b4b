-- `leaves::expand_port` meets its contract, from what its four walks ensure. Assumes nothing.
use Rattle.definitions.specs.RampInteriors.{exteriors}
use Rattle.context.specs.Shown.{pairs_between}
use Rattle.interior_proposals.proofs.LeafLaws.{port-walked}
use Rattle.interior_proposals.proofs.leaves.expand_port.Goals as goal

pub returns-clause-expanded : goal.returns-clause-expanded
returns-clause-expanded c =
    λ C i rs v P I M.
    let E = c.mark_exteriors-before.ensures.marked C rs P.walk I M in
    let H = c.expand_rows-grown.ensures.expanded C i rs (exteriors rs (pairs_between _ _ _)) v P I E.marked in
    port-walked C i _ rs v _ _ _ P E H (c.rows_split-after.ensures C _ P.walk H.inside) (c.clear_exteriors.ensures.cleared C rs P.walk E.marked)
