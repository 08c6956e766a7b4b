-- `printed::put_number` meets its contract: a byte behind the digits. Assumes nothing.
use native.Mathlib.Omega.{arith}
use borrow.Author.Rules.{rules}
use Rattle.byte_writer.specs.Chains.{appends_then, appends_long}
use Rattle.printed.proofs.put_number.Goals as goal

pub put_byte-requires : goal.put_byte-requires
put_byte-requires c = omega (arith, c.requires, c.put_decimal.ensures.bound, appends_long c.put_decimal.ensures.put)

pub returns : goal.returns
returns c = record { put = appends_then c.put_decimal.ensures.put c.put_byte.ensures; bound = search rules }
