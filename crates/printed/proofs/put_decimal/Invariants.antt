-- `printed::put_decimal` meets its contract. The loop's invariant is `Written`: the digits of the places from this one on are written. Assumes nothing.
use Rattle.printed.specs.Contract.{DigitCount}
use Rattle.printed.proofs.Digits.{Written}
use Rattle.printed.proofs.put_decimal.Given as goal

abbrev pub invariant-loop-place : goal.invariant-loop-place
invariant-loop-place l = DigitCount l.n l.count × Written l.initial.w l.n l.count l.place l.w
