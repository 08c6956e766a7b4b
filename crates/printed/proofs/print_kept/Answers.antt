-- `printed::print_kept` meets its contract: the first line, and the rows behind it. Assumes nothing.
use native.Mathlib.Omega.{arith}
use borrow.Author.Rules.{rules}
use Rattle.definitions.specs.Printed.{text, kept_line}
use Rattle.byte_writer.specs.Chains.{appends_then, appends_long, put_left}
use Rattle.printed.proofs.Places.{printed}
use Rattle.printed.proofs.print_kept.Goals as goal

pub put_rows-requires : goal.put_rows-requires
put_rows-requires c = omega (arith, c.requires, c.put_line.ensures.bound, appends_long c.put_line.ensures.put)

pub returns-clause-printed : goal.returns-clause-printed
unfolding text kept_line
returns-clause-printed c = printed (search rules) (put_left (appends_then c.put_line.ensures.put c.put_rows.ensures.put) (search rules))
