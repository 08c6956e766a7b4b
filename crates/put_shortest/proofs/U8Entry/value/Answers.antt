-- `put_shortest::U8Entry::value` meets its contract, by the search; written so that a wrong body is refused sooner. Assumes nothing.
use Rattle.std.proofs.Common.{rules}
use Rattle.put_shortest.proofs.U8Entry.value.Goals as goal

pub returns : goal.returns
returns c = search rules
