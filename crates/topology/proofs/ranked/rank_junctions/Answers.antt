-- What the parts ensure: the rows with a mark for each that the records allow, the selection, and the list, as `RankedLoops` puts them together.
use Rattle.std.proofs.Common.{arith, refl}
use Rattle.topology.proofs.RankedLoops.{pass-allowed, pass-ranked}
use Rattle.topology.proofs.ProposalLoops.{proposed-front, pass-judged, pass-removes}
use Rattle.topology.proofs.ranked.rank_junctions.Goals as goal

pub select_proposals-requires : goal.select_proposals-requires
select_proposals-requires c =
    let p = c.allowed_proposals-n.ensures _ c.requires.lists_show.1 in
    pass-judged c.requires.lists_show.1 (proposed-front (omega (arith, p.few, c.allowed_proposals-n.auto.rows)) p) refl c.requires.before_ranking.0

pub list_ranked-requires : goal.list_ranked-requires
list_ranked-requires c =
    let p = c.allowed_proposals-n.ensures _ c.requires.lists_show.1 in
    pass-allowed c.requires.lists_show.1 (proposed-front (omega (arith, p.few, c.allowed_proposals-n.auto.rows)) p) refl c.requires.before_ranking.1

pub returns : goal.returns
returns c = λ C h.
    let p = proposed-front (omega (arith, (c.allowed_proposals-n.ensures C h).few, c.allowed_proposals-n.auto.rows)) (c.allowed_proposals-n.ensures C h) in
    pass-ranked h p (pass-removes h p c.select_proposals.ensures) c.list_ranked.ensures.within c.list_ranked.ensures.list c.list_ranked.ensures.numbers c.list_ranked.ensures.rest
