-- `printed::put_row` meets its contract: five numbers, one behind the other. Assumes nothing.
use native.Mathlib.Omega.{arith}
use Rattle.byte_writer.specs.Chains.{appends_long}
use borrow.Author.Rules.{rules}
use Rattle.laws.specs.ListLaws.FlatRows.{row_at}
use Rattle.printed.proofs.Places.{row_put}
use Rattle.printed.proofs.put_row.Goals as goal

pub put_number-requires-2 : goal.put_number-requires-2
put_number-requires-2 c = omega (arith, c.requires, c.put_number.ensures.bound, appends_long c.put_number.ensures.put)

pub put_number-requires-3 : goal.put_number-requires-3
put_number-requires-3 c = omega (arith, c.requires, c.put_number.ensures.bound, appends_long c.put_number.ensures.put, c.put_number-2.ensures.bound, appends_long c.put_number-2.ensures.put)

pub put_number-requires-4 : goal.put_number-requires-4
put_number-requires-4 c = omega (arith, c.requires, c.put_number.ensures.bound, appends_long c.put_number.ensures.put, c.put_number-2.ensures.bound, appends_long c.put_number-2.ensures.put, c.put_number-3.ensures.bound, appends_long c.put_number-3.ensures.put)

pub put_number-requires-5 : goal.put_number-requires-5
put_number-requires-5 c = omega (arith, c.requires, c.put_number.ensures.bound, appends_long c.put_number.ensures.put, c.put_number-2.ensures.bound, appends_long c.put_number-2.ensures.put, c.put_number-3.ensures.bound, appends_long c.put_number-3.ensures.put, c.put_number-4.ensures.bound, appends_long c.put_number-4.ensures.put)

pub returns : goal.returns
returns c =
    let a = c.args in
    record { put = row_put (row_at a.row.now 0) c.put_number.ensures.put c.put_number-2.ensures.put c.put_number-3.ensures.put c.put_number-4.ensures.put c.put_number-5.ensures.put; bound = search rules }
