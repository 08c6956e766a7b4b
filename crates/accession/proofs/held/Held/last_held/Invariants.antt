-- `accession::held::Held::last_held` meets its contract. The loop's invariant (`Reached`): the map's last record among those held is its last among the first
-- `next`. The measure is `next`. Assumes nothing.
use Rattle.accession.proofs.Holding.{Reached}
use Rattle.accession.proofs.held.Held.last_held.Given as goal

abbrev pub invariant-loop-next : goal.invariant-loop-next
invariant-loop-next g l = Reached l.records g.row.SLOTS l.self.count l.number l.next

abbrev pub decreases-loop-next : goal.decreases-loop-next
decreases-loop-next g l = l.next
