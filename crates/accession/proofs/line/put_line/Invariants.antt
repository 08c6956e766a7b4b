-- `accession::line::put_line` meets its contract. The loop's invariant (`Putting`): the line's front is written, and the records that are left make up the rest.
-- Assumes nothing.
use Prim.Native.Nat.{◌-◌}
use lib.ListN.{length}
use Rattle.catalogue.specs.Accession.{accession_count}
use Rattle.accession.proofs.Putting.{Putting}
use Rattle.accession.proofs.line.put_line.Given as goal

abbrev pub invariant-loop-record : goal.invariant-loop-record
invariant-loop-record l = Putting l.fn.records l.number l.initial.output l.output (accession_count l.fn.records - length l.yielded) l.k
