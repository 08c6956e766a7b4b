-- `result_reader::walk_labels` meets its contract. The loop's invariant is `Walking`. Assumes nothing.
use Rattle.std.specs.Prelude.{Ok}
use Rattle.result_reader.specs.Walks.{turns_from}
use Rattle.result_reader.proofs.Walking.{Walking}
use Rattle.result_reader.proofs.walk_labels.Given as goal

abbrev pub invariant-loop : goal.invariant-loop
invariant-loop l = Walking (turns_from l.regions) 1 l.bytes (Ok 0) l.at l.count l.next l.counter l.state
