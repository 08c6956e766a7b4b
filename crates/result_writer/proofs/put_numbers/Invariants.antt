-- `result_writer::put_numbers` meets its contract: the numbers from n-index on are still to be written. Assumes nothing.
use Rattle.std.specs.Prelude.{◌≤◌, length, drop, map}
use Rattle.definitions.specs.Scan.{concat_map}
use Rattle.results.specs.Shortest.{shortest}
use Rattle.byte_writer.specs.Chains.{Writing}
use Rattle.result_writer.proofs.put_numbers.Given as goal

abbrev pub invariant-loop-n : goal.invariant-loop-n
invariant-loop-n g l = (l.n-index ≤ length l.numbers) × Writing l.initial.w (concat_map shortest (map g.T.Entry.value l.numbers)) (concat_map shortest (drop l.n-index (map g.T.Entry.value l.numbers))) l.w
