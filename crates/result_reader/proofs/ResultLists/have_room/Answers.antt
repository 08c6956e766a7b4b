-- `result_reader::ResultLists::have_room` meets its contract, by the search; written so that a wrong body is refused sooner. Assumes nothing.
use Rattle.std.proofs.Common.{rules}
use Rattle.result_reader.proofs.ResultLists.have_room.Goals as goal

pub returns-then-plan-self-3 : goal.returns-then-plan-self-3
returns-then-plan-self-3 c = search rules
