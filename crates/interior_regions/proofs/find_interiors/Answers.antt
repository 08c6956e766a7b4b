-- `find_interiors` meets its contract, from what its calls ensure. Assumes nothing.
use Rattle.interior_regions.proofs.Starting.{lent-kept, lent-owning, known-progress}
use Rattle.interior_regions.proofs.find_interiors.Goals as goal

pub propose_all-requires-clause-progress : goal.propose_all-requires-clause-progress
propose_all-requires-clause-progress c =
    let L = c.requires.lent.1 in
    let K = c.name_components.ensures.known _ L in
    (c.requires.lent.0, (lent-owning L (c.find_owners.ensures _ (lent-kept L K) L.counted), known-progress _ K))

pub returns-clause-found : goal.returns-clause-found
returns-clause-found c =
    λ C L P.
    let K = c.name_components.ensures.known C L in
    let W = lent-owning L (c.find_owners.ensures C (lent-kept L K) L.counted) in
    let g = c.propose_all.ensures.proposed C _ _ W (known-progress _ K) in
    record { owning = W; found = g.1; settled = g.0.settled; long = g.0.long; few = (lent-kept L K).few; pixels = P }
