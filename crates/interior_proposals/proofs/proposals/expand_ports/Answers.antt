-- `proposals::expand_ports` meets its contract, from what the two walks ensure. Assumes nothing.
use mathlib.Core.Bool.{true}
use Rattle.interior_proposals.proofs.ProposalLaws.{shown_ported, both-walked}
use Rattle.interior_proposals.proofs.proposals.expand_ports.Goals as goal

pub returns-clause-expanded : goal.returns-clause-expanded
returns-clause-expanded c =
    λ C rs P l m I M.
    let A = c.expand_port-first.ensures.expanded C _ rs true (rw (c.rows.ensures.0, c.rows.ensures.1) (shown_ported P _ l)) I M in
    both-walked A (c.expand_port-second.ensures.expanded C _ _ _ (rw (c.rows-2.ensures.0, c.rows-2.ensures.1) (shown_ported P _ m)) A.held.inside A.cleared.marked)
