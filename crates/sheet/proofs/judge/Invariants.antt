-- `sheet::judge` meets its contract. The loop's invariant is `Judging`: how the numbers that are left are read tells how all of them are. Assumes nothing.
use Rattle.sheet.specs.Numbers.{up_to}
use Rattle.sheet.proofs.Judging.{Judging}
use Rattle.sheet.proofs.judge.Given as goal

abbrev pub invariant-loop : goal.invariant-loop
invariant-loop l = Judging (up_to l.most) l.bytes l.at l.count l.next l.counter
