-- `printed::print_refused` meets its contract: one line. Assumes nothing.
use borrow.Author.Rules.{rules}
use Rattle.definitions.specs.Printed.{text, refused_line}
use Rattle.byte_writer.specs.Chains.{put_left}
use Rattle.printed.proofs.Places.{printed}
use Rattle.printed.proofs.print_refused.Goals as goal

pub returns : goal.returns
unfolding text refused_line
returns c = record { printed = printed (search rules) (put_left (rw c.number.ensures at c.put_line.ensures.put) (search rules)); bound = search rules }
