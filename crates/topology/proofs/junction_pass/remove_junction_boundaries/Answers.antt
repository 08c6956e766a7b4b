-- What the two parts ensure: the rows with a mark for each that the records allow, and the selection, as `ProposalLoops` puts them together.
use Rattle.std.proofs.Common.{arith, refl}
use Rattle.topology.proofs.ProposalLoops.{proposed-front, pass-judged, pass-removes}
use Rattle.topology.proofs.junction_pass.remove_junction_boundaries.Goals as goal

pub select_proposals-requires : goal.select_proposals-requires
select_proposals-requires c =
    let p = c.allowed_proposals-n.ensures _ c.requires.lists_show.1 in
    pass-judged c.requires.lists_show.1 (proposed-front (omega (arith, p.few, c.allowed_proposals-n.auto.rows)) p) refl c.requires.none_marked

pub returns : goal.returns
returns c = λ C h.
    let p = c.allowed_proposals-n.ensures C h in
    pass-removes h (proposed-front (omega (arith, p.few, c.allowed_proposals-n.auto.rows)) p) c.select_proposals.ensures
