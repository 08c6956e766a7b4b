-- `byte_writer::Writer::put_byte` meets its contract, by the search; written so that a wrong body is refused sooner. Assumes nothing.
use Rattle.std.proofs.Common.{rules}
use Rattle.byte_writer.proofs.Writer.put_byte.Goals as goal

pub returns : goal.returns
returns c = search rules
