-- `printed::put_rows` meets its contract. The loop's invariant is `Listing`: the rows so far stand one behind the other. Assumes nothing.
use Rattle.printed.proofs.Listing.{Listing}
use Rattle.printed.proofs.put_rows.Given as goal

abbrev pub invariant-loop-row : goal.invariant-loop-row
invariant-loop-row l = Listing l.initial.w l.rows l.w l.row-index
