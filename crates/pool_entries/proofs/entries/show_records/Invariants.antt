-- `entries::show_records` meets its contract. The invariant is `Showing`. Assumes nothing.
use Rattle.pool_entries.proofs.Showing.{Showing}
use Rattle.pool_entries.proofs.entries.show_records.Given as goal

abbrev pub invariant-loop-accession : goal.invariant-loop-accession
invariant-loop-accession l = Showing l.initial.shown l.fn.records l.day l.shown l.accession-index
