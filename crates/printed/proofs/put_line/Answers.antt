-- `printed::put_line` meets its contract: the parts one behind the other. Assumes nothing.
use native.Mathlib.Omega.{arith}
use Rattle.byte_writer.specs.Chains.{appends_long}
use borrow.Author.Rules.{rules}
use Rattle.printed.proofs.Places.{line-put}
use Rattle.printed.proofs.put_line.Goals as goal

pub put_decimal-requires : goal.put_decimal-requires
put_decimal-requires c = omega (arith, c.requires, c.put.ensures.put.next_is, appends_long c.put.ensures)

pub put-requires-2 : goal.put-requires-2
put-requires-2 c = omega (arith, c.requires, c.put.ensures.put.next_is, appends_long c.put.ensures, c.put_decimal.ensures.bound, appends_long c.put_decimal.ensures.put)

pub put_number-requires : goal.put_number-requires
put_number-requires c =
    omega (
      arith,
      c.requires,
      c.put.ensures.put.next_is,
      appends_long c.put.ensures,
      c.put_decimal.ensures.bound,
      appends_long c.put_decimal.ensures.put,
      c.put-2.ensures.put.next_is,
      appends_long c.put-2.ensures,
    )

pub returns : goal.returns
returns c =
    let a = c.args in
    record { put = line-put a.first.now a.second.now a.m a.n c.put.ensures c.put_decimal.ensures.put c.put-2.ensures c.put_number.ensures.put; bound = search rules }
