-- `sheet::fill_numbers` meets its contract. The loop's invariant is `Filling`: storing the numbers that are left makes the list that is wanted. Where the loop is
-- left early, `fill_rest` stores them. Assumes nothing.
use Rattle.definitions.specs.SheetNumber.{number}
use Rattle.definitions.specs.Lists.{overwrite}
use Rattle.sheet.specs.Numbers.{values_at}
use Rattle.sheet.proofs.Filling.{Filling}
use Rattle.sheet.proofs.fill_numbers.Given as goal

abbrev pub invariant-loop-i : goal.invariant-loop-i
invariant-loop-i l = Filling number l.bytes l.initial.out (overwrite (values_at number l.bytes l.at l.count) l.initial.out) l.count l.out l.next l.i
