-- `result_reader::walk_keys` meets its contract. The loop's invariant is `Walking`. Assumes nothing.
use Rattle.std.specs.Prelude.{None, Ok}
use Rattle.result_writer.specs.Contract.{key_in}
use Rattle.result_reader.specs.Walks.{ascent_from}
use Rattle.result_reader.proofs.Walking.{Walking}
use Rattle.result_reader.proofs.walk_keys.Given as goal

abbrev pub invariant-loop : goal.invariant-loop
invariant-loop g l = Walking (ascent_from (key_in l.last)) g.row.N l.bytes (Ok None) l.at l.count l.next l.counter l.state
