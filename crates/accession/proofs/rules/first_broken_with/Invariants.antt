-- `accession::rules::first_broken_with` meets its contract. The loop's invariant (`Checked`): the first i records keep the rules, and the table holds some of
-- them. Assumes nothing.
use Rattle.accession.proofs.Checking.{Checked}
use Rattle.accession.proofs.rules.first_broken_with.Given as goal

abbrev pub invariant-loop-i : goal.invariant-loop-i
invariant-loop-i g l = Checked l.records g.row.SLOTS l.held.last l.held.links l.held.count l.i
