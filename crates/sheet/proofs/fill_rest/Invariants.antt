-- `sheet::fill_rest` meets its contract. The loop's invariant is `Filling`: storing the numbers that are left makes the list that is wanted. What was judged is
-- not refused. Assumes nothing.
use lib.ListN.{length}
use Rattle.definitions.specs.SheetNumber.{number}
use Rattle.sheet.specs.Numbers.{values_at}
use Rattle.sheet.proofs.Filling.{Filling}
use Rattle.sheet.proofs.fill_rest.Given as goal

abbrev pub invariant-loop-entry : goal.invariant-loop-entry
invariant-loop-entry l = Filling number l.bytes l.initial.out (values_at number l.bytes l.at (length l.initial.out)) (length l.initial.out) l.out l.next l.entry-index
